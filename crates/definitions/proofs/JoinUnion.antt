-- The union of two clause sets, the second's shifted behind the first's: its rows ascend, and its words. Assumes nothing.
use mathlib.Core.Bool.{true}
use mathlib.Core.Logic.{◌⊎◌, inl, inr}
use mathlib.Core.Path.{◌≡◌, refl, sym, ◌∙◌, ap, ap₂, subst}
use mathlib.Core.List.Memᴰ
use mathlib.Core.List.{List, [], ◌∷◌, ◌++◌, map, map-append, append_assoc, Memᴰ}
use Prim.Native.Nat.{ℕ, zero, suc, ◌+◌, ◌-◌, ◌*◌, ◌≤◌, ◌<◌}
use native.Mathlib.Omega.{arith}
use lib.ListN.{length, replicate}
use borrow.Author.Tests.{eq-eqb, ne_eqb}
use Rattle.definitions.specs.Lists.{each, compare_words}
use Rattle.definitions.specs.Literal.{fill, all_below, literal_list, most_atoms}
use Rattle.definitions.specs.Clauses.{width, row_of, clause_words, row_less, GoodClause}
use Rattle.definitions.specs.Join.{shifted, shifted_clauses, union, shifted_word, union_words}
use Rattle.definitions.proofs.ListLaws.{and_left, and_right, and_both, map_of}
use Rattle.definitions.proofs.LiteralLaws.{list_low, below_at}
use Rattle.definitions.proofs.OrderLaws.{lt_compare, less_of, of_less, up, up_from, map_less}
use Rattle.definitions.proofs.JoinLaws.{shifted_length}
use Rattle.definitions.proofs.JoinRead.{list_first, list_second}

-- ---- the words of shifted clauses
-- a word of a row: a literal over L atoms, or the fill
Word : ℕ → ℕ → Type 0
Word L x = (x < 2 * L) ⊎ (x ≡ fill)

module _ (n L : ℕ) (few : n + L ≤ most_atoms) where
  word_literal : (x : ℕ) → x < 2 * L → shifted_word (2 * n) x ≡ 2 * n + x
  unfolding shifted_word fill
  word_literal x h = rw (ne_eqb x 65535 (λ e. absurd (omega arith)))

  word_fill : shifted_word (2 * n) fill ≡ fill
  unfolding shifted_word
  word_fill = rw (eq-eqb fill fill refl)

  word_less : (x y : ℕ) → Word L x → Word L y → x < y → shifted_word (2 * n) x < shifted_word (2 * n) y
  unfolding Word fill
  word_less x y (inl a) (inl b) h = let p = word_literal x a in let q = word_literal y b in omega arith
  word_less x y (inl a) (inr b) h =
      let p = word_literal x a in
      let q : shifted_word (2 * n) y ≡ 65535 = ap (shifted_word (2 * n)) b ∙ word_fill in
      omega arith
  word_less x y (inr a) (inl b) h = absurd (omega arith)
  word_less x y (inr a) (inr b) h = absurd (omega arith)

  row_words_lem : (f : List ℕ) → all_below (2 * L) f ≡ true → (x : ℕ) → Memᴰ x (row_of f) → Word L x
  unfolding row_of Word
  row_words_lem f low x m = go (Memᴰ.append_cases f m)
    where
      filled : (k : ℕ) → Memᴰ x (replicate k fill) → x ≡ fill
      filled zero m = absurd (Memᴰ.not-nil m)
      filled (suc k) m = next (Memᴰ.cases_cons m) (λ j. filled k j)
        where
          next : (x ≡ fill) ⊎ Memᴰ x (replicate k fill) → (Memᴰ x (replicate k fill) → x ≡ fill) → x ≡ fill
          next (inl e) rec = e
          next (inr j) rec = rec j

      go : Memᴰ x f ⊎ Memᴰ x (replicate (width - length f) fill) → (x < 2 * L) ⊎ (x ≡ fill)
      go (inl k) = inl (below_at (2 * L) f low x k)
      go (inr k) = inr (filled (width - length f) k)

  row_shift : (f : List ℕ) → all_below (2 * L) f ≡ true → row_of (shifted (2 * n) f) ≡ map (shifted_word (2 * n)) (row_of f)
  unfolding row_of shifted
  row_shift f low =
      ap₂ (λ a k. a ++ replicate (width - k) fill) (literals f (λ x m. below_at (2 * L) f low x m)) (shifted_length (2 * n) f)
      ∙ ap (λ l. map (shifted_word (2 * n)) f ++ l) (fills (width - length f))
      ∙ sym (map-append (shifted_word (2 * n)) f (replicate (width - length f) fill))
    where
      literals : (f : List ℕ) → ((x : ℕ) → Memᴰ x f → x < 2 * L) → map (λ x. 2 * n + x) f ≡ map (shifted_word (2 * n)) f
      literals [] h = refl
      literals (x ∷ f) h = ap₂ (λ a b. a ∷ b) (sym (word_literal x (h x (Memᴰ.head refl)))) (literals f (λ y m. h y (Memᴰ.tail m)))

      fills : (k : ℕ) → replicate k fill ≡ map (shifted_word (2 * n)) (replicate k fill)
      fills zero = refl
      fills (suc k) = ap₂ (λ a b. a ∷ b) (sym word_fill) (fills k)

  abbrev Lows : List (List ℕ) → Type 0
  Lows D = (f : List ℕ) → Memᴰ f D → all_below (2 * L) f ≡ true

  less_shift :
      (f g : List ℕ) → all_below (2 * L) f ≡ true → all_below (2 * L) g ≡ true → row_less (row_of f) (row_of g) ≡ true
      → row_less (row_of (shifted (2 * n) f)) (row_of (shifted (2 * n) g)) ≡ true
  less_shift f g p q h =
      of_less (row_of (shifted (2 * n) f)) (row_of (shifted (2 * n) g))
      (ap₂ (λ a b. compare_words a b) (row_shift f p) (row_shift g q)
      ∙ map_less (shifted_word (2 * n)) (row_of f) (row_of g)
      (λ x y m k. word_less x y (row_words_lem f p x m) (row_words_lem g q y k)) (less_of (row_of f) (row_of g) h))

  from_shift :
      (f : List ℕ) (D : List (List ℕ)) → all_below (2 * L) f ≡ true → Lows D → up_from f D ≡ true
      → up_from (shifted (2 * n) f) (shifted_clauses n D) ≡ true
  unfolding up_from shifted_clauses
  from_shift f [] p q u = refl
  from_shift f (g ∷ D) p q u =
      and_both (less_shift f g p (q g (Memᴰ.head refl)) (and_left (row_less (row_of f) (row_of g)) (up_from g D) u))
      (from_shift g D (q g (Memᴰ.head refl)) (λ h m. q h (Memᴰ.tail m)) (and_right (row_less (row_of f) (row_of g)) (up_from g D) u))

  words_shift : (D : List (List ℕ)) → Lows D → map (shifted_word (2 * n)) (clause_words D) ≡ clause_words (shifted_clauses n D)
  unfolding clause_words each shifted_clauses
  words_shift [] q = refl
  words_shift (f ∷ D) q =
      map-append (shifted_word (2 * n)) (row_of f) (each row_of D)
      ∙ ap₂ (λ a b. a ++ b) (sym (row_shift f (q f (Memᴰ.head refl)))) (words_shift D (λ h m. q h (Memᴰ.tail m)))

words_append : (C D : List (List ℕ)) → clause_words (C ++ D) ≡ clause_words C ++ clause_words D
unfolding clause_words each
words_append [] D = refl
words_append (f ∷ C) D = ap (λ l. row_of f ++ l) (words_append C D) ∙ sym (append_assoc (row_of f) (clause_words C) (clause_words D))

-- ---- the union
-- right clauses over N atoms
abbrev pub AllGood : ℕ → List (List ℕ) → Type 0
AllGood N C = (f : List ℕ) → Memᴰ f C → GoodClause N width f

module _ (N L : ℕ) (few : N + L ≤ most_atoms) (C D : List (List ℕ)) (goodC : AllGood N C) (goodD : AllGood L D) where
  low_c : (f : List ℕ) → Memᴰ f C → all_below (2 * N) f ≡ true
  low_c f m = list_low N f (goodC f m).list

  low_d : (f : List ℕ) → Memᴰ f D → all_below (2 * L) f ≡ true
  low_d f m = list_low L f (goodD f m).list

  -- every row of the first is below every row of the second
  across : (f g : List ℕ) → GoodClause N width f → GoodClause L width g → row_less (row_of f) (row_of (shifted (2 * N) g)) ≡ true
  unfolding row_of shifted compare_words
  across f g p q = go f g p.some_literal q.some_literal (λ x m. below_at (2 * N) f (list_low N f p.list) x m)
    where
      go :
          (f g : List ℕ) → 1 ≤ length f → 1 ≤ length g → ((x : ℕ) → Memᴰ x f → x < 2 * N)
          → row_less (row_of f) (row_of (shifted (2 * N) g)) ≡ true
      go [] g a b h = absurd (omega arith)
      go (x ∷ f) [] a b h = absurd (omega arith)
      go (x ∷ f) (y ∷ g) a b h =
          let k = h x (Memᴰ.head refl) in
          of_less (row_of (x ∷ f)) (row_of (shifted (2 * N) (y ∷ g))) (rw (lt_compare x (2 * N + y) (omega arith), compare_words))

  from_union :
      (f : List ℕ) (B : List (List ℕ)) → GoodClause N width f → AllGood N B → (D : List (List ℕ))
      → AllGood L D → up_from f B ≡ true → up D ≡ true → up_from f (B ++ shifted_clauses N D) ≡ true
  unfolding up_from up shifted_clauses
  from_union f [] p q [] r u v = refl
  from_union f [] p q (g ∷ D) r u v =
      and_both (across f g p (r g (Memᴰ.head refl)))
      (from_shift N L few g D (list_low L g (r g (Memᴰ.head refl)).list) (λ h m. list_low L h (r h (Memᴰ.tail m)).list) v)
  from_union f (g ∷ B) p q D r u v =
      and_both (and_left (row_less (row_of f) (row_of g)) (up_from g B) u)
      (from_union g B (q g (Memᴰ.head refl)) (λ h m. q h (Memᴰ.tail m)) D r (and_right (row_less (row_of f) (row_of g)) (up_from g B) u) v)

  pub union_up : up C ≡ true → up D ≡ true → up (union N C D) ≡ true
  unfolding union up up_from shifted_clauses
  union_up u v = go C D goodC goodD u v
    where
      go :
          (C D : List (List ℕ)) → AllGood N C → AllGood L D → up C ≡ true
          → up D ≡ true → up (C ++ shifted_clauses N D) ≡ true
      go [] [] p q u v = refl
      go [] (g ∷ D) p q u v =
          from_shift N L few g D (list_low L g (q g (Memᴰ.head refl)).list) (λ h m. list_low L h (q h (Memᴰ.tail m)).list) v
      go (f ∷ C) D p q u v = from_union f C (p f (Memᴰ.head refl)) (λ h m. p h (Memᴰ.tail m)) D q u v

  pub union_good : (f : List ℕ) → Memᴰ f (union N C D) → GoodClause (N + L) width f
  unfolding union shifted_clauses
  union_good f m = go (Memᴰ.append_cases C m)
    where
      go : Memᴰ f C ⊎ Memᴰ f (map (shifted (2 * N)) D) → GoodClause (N + L) width f
      go (inl k) =
          let g = goodC f k in
          record { list = list_first N L f g.list; some_literal = g.some_literal; most = g.most }
      go (inr k) =
          let o = map_of (shifted (2 * N)) D k in
          let g = goodD o.it o.mem in
          let a = ap length o.same ∙ shifted_length (2 * N) o.it in
          let b = g.some_literal in
          let c = g.most in
          record {
            list = subst (λ (z : List ℕ). literal_list (N + L) z ≡ true) (sym o.same) (list_second N L o.it g.list);
            some_literal = omega arith;
            most = omega arith;
          }

  pub union_words_lem : clause_words (union N C D) ≡ union_words N (clause_words C) (clause_words D)
  unfolding union union_words
  union_words_lem = words_append C (shifted_clauses N D) ∙ ap (λ l. clause_words C ++ l) (sym (words_shift N L few D low_d))
