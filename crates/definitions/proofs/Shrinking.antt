-- The possible clauses that contain a clause of the set get fewer in each round in which a clause fails; a set of which none fails stays. Assumes nothing.
use mathlib.Core.Bool.{Bool, true, false, false≢true}
use mathlib.Core.Logic.{◌⊎◌, inl, inr}
use mathlib.Core.Path.{◌≡◌, refl, ◌∙◌, ap, subst}
use mathlib.Core.List.Memᴰ
use mathlib.Core.List.{List, [], ◌∷◌, map, Memᴰ}
use Prim.Native.Nat.{ℕ, suc, ◌≤◌, ◌<◌}
use native.Mathlib.Omega.{arith}
use lib.Dec.{ltb}
use lib.ListN.{length}
use borrow.Author.Tests.{ltb-true, ltb-false}
use Rattle.definitions.specs.Lists.{any, all, keep, each, empty, ascending, member, another}
use Rattle.definitions.specs.Image.{Task}
use Rattle.definitions.specs.Synthesis.{insert_all, undominated, Tested, tested, passes, weakened_by, weakened, next_of, next, set_at}
use Rattle.definitions.specs.PossibleClauses.{possible_clauses}
use Rattle.definitions.proofs.ListLaws.{decide, never, refuted, any_in, any_of, all_at, all_of, all_false, keep_all}
use Rattle.definitions.proofs.ListLaws.{keep_in, keep_of, map_in, member_in, member_of}
use Rattle.definitions.proofs.LiteralLaws.{list_ascends}
use Rattle.definitions.proofs.SetLaws.{each_none, test_of, FromNext, survived, weaker, tested_of, next_of_lem, insert_literal_keeps}
use Rattle.definitions.proofs.SetRight.{good_sets, insert_length, surviving}
use Rattle.definitions.proofs.RoundLaws.{none_fails}
use Rattle.definitions.proofs.Counting.{Part, part_length, keep_distinct, ascending_distinct, part_same}
use Rattle.definitions.proofs.Undominated.{Antichain, undominated_same, sets_antichain}
use Rattle.definitions.proofs.PossibleClauses.{counted}

-- ---- a clause of C is contained in g, or is g
unfoldable subsumed : List (List ℕ) → List ℕ → Bool
subsumed C g = any (λ f. all (λ l. member l g) f) C

record Subsumer (C : List (List ℕ)) (g : List ℕ) : Type 0 where
  it : List ℕ
  mem : Memᴰ it C
  part : Part it g

subsumed_of : (C : List (List ℕ)) (g : List ℕ) → subsumed C g ≡ true → Subsumer C g
unfolding subsumed
subsumed_of C g h =
    let w = any_of (λ f. all (λ l. member l g) f) C h in
    record { it = w.it; mem = w.mem; part = λ l m. member_of l g (all_at (λ l. member l g) w.passes m) }

subsumed_in : (C : List (List ℕ)) (f g : List ℕ) → Memᴰ f C → Part f g → subsumed C g ≡ true
unfolding subsumed
subsumed_in C f g m p = any_in (λ f. all (λ l. member l g) f) m (all_of (λ l. member l g) f (λ l k. member_in (p l k)))

-- ---- the next set
abbrev Ascending : List (List ℕ) → Type 0
Ascending C = (f : List ℕ) → Memᴰ f C → ascending f ≡ true

module _ (t : Task) (n : ℕ) (C : List (List ℕ)) where
  -- what contains a clause of the next set contains one of C: it, or the one that was weakened to it
  next_subsumed : (g : List ℕ) → subsumed (next t n C) g ≡ true → subsumed C g ≡ true
  next_subsumed g h = let c = subsumed_of (next t n C) g h in go c (next_of_lem t n C c.mem)
    where
      go : (c : Subsumer (next t n C) g) → FromNext t n C c.it → subsumed C g ≡ true
      go c (survived k passed) = subsumed_in C c.it g k c.part
      go c (weaker f l k small low new e) = subsumed_in C f g k (λ x m. c.part x (rw e (insert_literal_keeps l f m)))

  module _ (up : Ascending C) (up_next : Ascending (next t n C)) (chain : Antichain C) where
    -- a failing clause contains no clause of the next set
    failing_leaves : (f : List ℕ) → Memᴰ f C → passes (test_of t C f) ≡ false → subsumed (next t n C) f ≡ false
    failing_leaves f m fails = refuted (λ h. let c = subsumed_of (next t n C) f h in none c (next_of_lem t n C c.mem))
      where
        survivor :
            (g : List ℕ) → Memᴰ g C → passes (test_of t C g) ≡ true → Part g f
            → (ltb (length g) (length f) ≡ true) ⊎ (ltb (length g) (length f) ≡ false) → ⊥
        survivor g k passed p (inl h) = chain f g m k (ltb-true (length g) (length f) h) p
        survivor g k passed p (inr h) =
            let e : g ≡ f = part_same g f (up g k) (up f m) p (ltb-false (length g) (length f) h) in
            never (subst (λ (z : List ℕ). passes (test_of t C z) ≡ true) e passed) fails

        none : (c : Subsumer (next t n C) f) → FromNext t n C c.it → ⊥
        none c (survived k passed) = survivor c.it k passed c.part (decide (ltb (length c.it) (length f)))
        none c (weaker g l k small low new e) =
            let a = part_length (ascending_distinct c.it (up_next c.it c.mem)) f c.part in
            let b = ap length e ∙ insert_length l g in
            chain f g m k (omega arith) (λ x j. c.part x (rw e (insert_literal_keeps l g j)))

-- ---- the sets of the synthesis
sets_ascending : (t : Task) (n r : ℕ) → 1 ≤ n → Ascending (set_at t n r)
sets_ascending t n r h f m = list_ascends t.atoms f (good_sets t n r h f m).list

module _ (t : Task) (n : ℕ) where
  possible : List (List ℕ)
  possible = (counted t.atoms n).list

  -- the possible clauses that contain a clause of Cr, or are one
  subsumed_at : ℕ → List (List ℕ)
  subsumed_at r = keep (subsumed (set_at t n r)) possible

  -- how many they are
  pub subsumed_count : ℕ → ℕ
  subsumed_count r = length (subsumed_at r)

  pub subsumed_most : (r : ℕ) → subsumed_count r ≤ possible_clauses t.atoms n
  unfolding subsumed_count subsumed_at possible
  subsumed_most r =
      let c = counted t.atoms n in
      let h = part_length (keep_distinct (subsumed (set_at t n r)) c.once) c.list (λ f m. (keep_of (subsumed (set_at t n r)) c.list m).0) in
      let k = c.count in
      omega arith

  -- a clause of Cr that fails leaves them, and none enters
  pub shrinks : (r : ℕ) → 1 ≤ n → none_fails t n r ≡ false → subsumed_count (suc r) < subsumed_count r
  unfolding subsumed_count subsumed_at possible none_fails set_at
  shrinks r some h =
      let w = all_false passes (tested t C) h in
      let o = tested_of t C w.mem in
      fewer o.it o.mem (subst (λ (x : Tested). passes x ≡ false) o.same w.fails)
    where
      C : List (List ℕ)
      C = set_at t n r

      D : List (List ℕ)
      D = next t n C

      fewer : (f : List ℕ) → Memᴰ f C → passes (test_of t C f) ≡ false → subsumed_count (suc r) < subsumed_count r
      fewer f m fails =
          part_length (another gone (keep_distinct (subsumed D) (counted t.atoms n).once)) (subsumed_at r)
          (λ g k. there g (Memᴰ.cases_cons k))
        where
          gone : Memᴰ f (keep (subsumed D) possible) → ⊥
          gone k =
              never {A = ⊥} (keep_of (subsumed D) possible k).1
              (failing_leaves t n C (sets_ascending t n r some) (sets_ascending t n (suc r) some) (sets_antichain t n r) f m fails)

          there : (g : List ℕ) → (g ≡ f) ⊎ Memᴰ g (keep (subsumed D) possible) → Memᴰ g (subsumed_at r)
          there g (inl e) =
              rw e (keep_in (subsumed C) ((counted t.atoms n).every f (good_sets t n r some f m)) (subsumed_in C f f m (λ l k. k)))
          there g (inr k) = let j = keep_of (subsumed D) possible k in keep_in (subsumed C) j.0 (next_subsumed t n C g j.1)

-- ---- a set of which none fails stays
empty_none : {A : Type 0} (xs : List A) → empty xs ≡ true → xs ≡ []
unfolding empty
empty_none [] h = refl
empty_none (x ∷ xs) h = absurd (false≢true h)

module _ (t : Task) (n : ℕ) (C : List (List ℕ)) where
  passing_weakened : (x : Tested) → passes x ≡ true → weakened t n C x ≡ []
  unfolding passes weakened each
  passing_weakened x h = go (ltb (length x.clause) n) refl
    where
      go : (b : Bool) → ltb (length x.clause) n ≡ b → weakened t n C x ≡ []
      go true e = rw (e, weakened) (ap (each (weakened_by t C x.clause)) (empty_none x.failing h))
      go false e = rw (e, weakened)

  next_same : Antichain C → all passes (tested t C) ≡ true → next t n C ≡ C
  unfolding next next_of insert_all tested
  next_same chain h =
      ap (λ E. undominated (insert_all E (map (λ x. x.clause) (keep passes (tested t C))))) none_added
      ∙ ap undominated (surviving t C ∙ keep_all (λ f. passes (test_of t C f)) C all_pass)
      ∙ undominated_same C chain
    where
      none_added : each (weakened t n C) (tested t C) ≡ []
      none_added = each_none (weakened t n C) (tested t C) (λ x m. passing_weakened x (all_at passes h m))

      all_pass : all (λ f. passes (test_of t C f)) C ≡ true
      all_pass = all_of (λ f. passes (test_of t C f)) C (λ f m. all_at passes h (map_in (test_of t C) m))

-- no clause of the next set fails either
pub none_on : (t : Task) (n r : ℕ) → none_fails t n r ≡ true → none_fails t n (suc r) ≡ true
unfolding none_fails set_at
none_on t n r h = ap (λ C. all passes (tested t C)) (next_same t n (set_at t n r) (sets_antichain t n r) h) ∙ h
