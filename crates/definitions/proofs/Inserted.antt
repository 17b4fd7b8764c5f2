-- Clauses put into a set, and what is a member then. Assumes nothing.
use mathlib.Core.Logic.{◌⊎◌, inl, inr}
use mathlib.Core.Path.{◌≡◌, refl, sym, ◌∙◌, ap}
use mathlib.Core.List.Memᴰ
use mathlib.Core.List.{List, [], ◌∷◌, ◌++◌, Memᴰ}
use Prim.Native.Nat.{ℕ, suc, ◌-◌, ◌≤◌, Ordering}
use native.Mathlib.Omega.{arith}
use lib.ListN.{length, replicate}
use Rattle.definitions.specs.Lists.{compare_words, is_same}
use Rattle.definitions.specs.Literal.{most_atoms, fill}
use Rattle.definitions.specs.Clauses.{width, row_of, clause_of, GoodClause}
use Rattle.definitions.specs.Synthesis.{insert_clause, insert_all}
use Rattle.definitions.proofs.LiteralLaws.{list_low}
use Rattle.definitions.proofs.PlaceLaws.{same_words}
use Rattle.definitions.proofs.SetLaws.{insert_clause_of}
use Rattle.definitions.proofs.Accepts.{clause_back}

-- ---- a clause put into a set
abbrev pub Goods : ℕ → List (List ℕ) → Type 0
Goods N C = (f : List ℕ) → Memᴰ f C → GoodClause N width f

-- clauses with the same row are the same
pub row_one : (N : ℕ) (f g : List ℕ) → N ≤ most_atoms → GoodClause N width f → GoodClause N width g → compare_words (row_of f) (row_of g) ≡ Ordering.eq → f ≡ g
unfolding row_of is_same
row_one N f g few a b e = sym (back f a) ∙ ap clause_of (same_words (row_of f) (row_of g) (ap is_same e)) ∙ back g b
  where
    back : (f : List ℕ) → GoodClause N width f → clause_of (f ++ replicate (width - length f) fill) ≡ f
    back f a = clause_back N f (width - length f) few (list_low N f a.list)

pub put_self : (N : ℕ) (f : List ℕ) (C : List (List ℕ)) → N ≤ most_atoms → GoodClause N width f → Goods N C → Memᴰ f (insert_clause f C)
unfolding insert_clause
put_self N f [] few a b = Memᴰ.head refl
put_self N f (g ∷ C) few a b = go (compare_words (row_of f) (row_of g)) refl (put_self N f C few a (λ h m. b h (Memᴰ.tail m)))
  where
    go : (c : Ordering) → compare_words (row_of f) (row_of g) ≡ c → Memᴰ f (insert_clause f C) → Memᴰ f (insert_clause f (g ∷ C))
    go Ordering.lt e rec = rw (e, insert_clause) (Memᴰ.head refl)
    go Ordering.eq e rec = rw (e, insert_clause) (Memᴰ.head (row_one N f g few a (b g (Memᴰ.head refl)) e))
    go Ordering.gt e rec = rw (e, insert_clause) (Memᴰ.tail rec)

pub put_keeps : (f : List ℕ) (C : List (List ℕ)) (h : List ℕ) → Memᴰ h C → Memᴰ h (insert_clause f C)
unfolding insert_clause
put_keeps f [] h m = absurd (Memᴰ.not-nil m)
put_keeps f (g ∷ C) h m = go (compare_words (row_of f) (row_of g)) refl (Memᴰ.cases_cons m) (λ k. put_keeps f C h k)
  where
    later : (h ≡ g) ⊎ Memᴰ h C → (Memᴰ h C → Memᴰ h (insert_clause f C)) → Memᴰ h (g ∷ insert_clause f C)
    later (inl e) rec = Memᴰ.head e
    later (inr k) rec = Memᴰ.tail (rec k)

    go :
        (c : Ordering) → compare_words (row_of f) (row_of g) ≡ c → (h ≡ g) ⊎ Memᴰ h C → (Memᴰ h C → Memᴰ h (insert_clause f C))
        → Memᴰ h (insert_clause f (g ∷ C))
    go Ordering.lt e k rec = rw (e, insert_clause) (Memᴰ.tail m)
    go Ordering.eq e k rec = rw (e, insert_clause) m
    go Ordering.gt e k rec = rw (e, insert_clause) (later k rec)

pub put_length : (f : List ℕ) (C : List (List ℕ)) → length (insert_clause f C) ≤ suc (length C)
unfolding insert_clause
put_length f [] = omega arith
put_length f (g ∷ C) = go (compare_words (row_of f) (row_of g)) refl (put_length f C)
  where
    go :
        (c : Ordering) → compare_words (row_of f) (row_of g) ≡ c → length (insert_clause f C) ≤ suc (length C)
        → length (insert_clause f (g ∷ C)) ≤ suc (suc (length C))
    go Ordering.lt e rec = rw (e, insert_clause) (omega arith)
    go Ordering.eq e rec = rw (e, insert_clause) (omega arith)
    go Ordering.gt e rec = rw (e, insert_clause) (omega arith)

-- ---- clauses put into a set one after the other
pub all_keeps : (D C : List (List ℕ)) (h : List ℕ) → Memᴰ h C → Memᴰ h (insert_all D C)
unfolding insert_all
all_keeps [] C h m = m
all_keeps (f ∷ D) C h m = all_keeps D (insert_clause f C) h (put_keeps f C h m)

-- every clause put in is there
pub all_in_lem :
    (N : ℕ) (D C : List (List ℕ)) (g : List ℕ) → N ≤ most_atoms → Goods N D → Goods N C → Memᴰ g D → Memᴰ g (insert_all D C)
unfolding insert_all
all_in_lem N [] C g few d c m = absurd (Memᴰ.not-nil m)
all_in_lem N (f ∷ D) C g few d c m =
    go (Memᴰ.cases_cons m) (λ k. all_in_lem N D (insert_clause f C) g few (λ h j. d h (Memᴰ.tail j)) more k)
  where
    more : Goods N (insert_clause f C)
    more h j = pick (insert_clause_of f C j)
      where
        pick : (h ≡ f) ⊎ Memᴰ h C → GoodClause N width h
        pick (inl e) = rw e (d f (Memᴰ.head refl))
        pick (inr k) = c h k

    go : (g ≡ f) ⊎ Memᴰ g D → (Memᴰ g D → Memᴰ g (insert_all D (insert_clause f C))) → Memᴰ g (insert_all D (insert_clause f C))
    go (inl e) rec = rw e (all_keeps D (insert_clause f C) f (put_self N f C few (d f (Memᴰ.head refl)) c))
    go (inr k) rec = rec k
