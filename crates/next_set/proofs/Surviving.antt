-- The rows without a flag are the survivors, and the set built from them is the next set. Assumes nothing.
use mathlib.Core.Bool.{Bool, true, false, not, cond}
use mathlib.Core.Option.{some}
use mathlib.Core.Path.{◌≡◌, refl, sym, ◌∙◌, ap, subst}
use mathlib.Core.List.{List, [], ◌∷◌, ◌++◌, map, Memᴰ}
use Prim.Native.Nat.{ℕ, ◌+◌, ◌-◌, ◌*◌, ◌%◌, ◌≤◌, ◌<◌}
use native.Mathlib.Nat.{mul-le-mul_left}
use native.Mathlib.Omega.{arith}
use lib.ListN.{length, get_or}
use Rattle.definitions.specs.Lists.{all, keep, each, range}
use Rattle.definitions.specs.Image.{Task}
use Rattle.definitions.specs.Closure.{bit}
use Rattle.definitions.specs.Kept.{kept}
use Rattle.definitions.specs.Clauses.{width, row_of, clause_words}
use Rattle.definitions.specs.Synthesis.{next}
use Rattle.definitions.proofs.ListLaws.{keep_of, keep_yes, keep_no}
use Rattle.definitions.proofs.SetLaws.{range_of}
use Rattle.definitions.proofs.OrderLaws.{up}
use Rattle.definitions.specs.Clauses.{GoodClause}
use Rattle.definitions.proofs.SetRight.{good_sets, up_sets}
use Rattle.definitions.proofs.Accepts.{words_length}
use Rattle.clause.specs.Rows.{row_count, clauses_of, ClausesRead}
use Rattle.clause.proofs.RowLaws.{clauses_length}
use Rattle.clause.proofs.ReadLaws.{read_right, read_whole}
use Rattle.clause.proofs.WordLaws.{row_at_lem}
use Rattle.clause_set.specs.Put.{put_all}
use Rattle.definitions.specs.Literal.{most_atoms}
use Rattle.clause_set.specs.Held.{held, Room}
use Rattle.definitions.proofs.Inserted.{Goods}
use Rattle.clause_set.proofs.Insertion.{room_of, held_of}
use Rattle.task.specs.Reads.{task_of}
use Rattle.next_set.specs.Build.{fails_below, survivors, added_from, fitted, rows_without, words_without}
use Rattle.next_set.specs.Post.{Copied, Round}
use Rattle.next_set.proofs.Flags.{flags_length, flag_has}
use Rattle.next_set.proofs.Testing.{fails_all}
use Rattle.next_set.proofs.Adding.{each_agree, each_places, list_more}
use Rattle.definitions.proofs.Undominated.{Antichain, sets_antichain}
use Rattle.next_set.proofs.NextSet.{survivors_up, next_built}

each_keep : {A B : Type 0} (g : A → List B) (p : A → Bool) (xs : List A) → each g (keep p xs) ≡ each (λ x. cond (p x) (g x) []) xs
unfolding each keep
each_keep g p [] = refl
each_keep g p (x ∷ xs) = go (p x) refl (each_keep g p xs)
  where
    go :
        (b : Bool) → p x ≡ b → each g (keep p xs) ≡ each (λ x. cond (p x) (g x) []) xs
        → each g (keep p (x ∷ xs)) ≡ cond (p x) (g x) [] ++ each (λ x. cond (p x) (g x) []) xs
    go true e rec = rw (keep_yes p x xs e, e, rec)
    go false e rec = rw (keep_no p x xs e, e, rec)

cond_not : {A : Type 0} (b : Bool) (x y : A) → cond (not b) x y ≡ cond b y x
cond_not true x y = refl
cond_not false x y = refl

cancel : (a b : ℕ) → width * a ≡ width * b → a ≡ b
unfolding width
cancel a b e = omega arith

whole : (c : List ℕ) → length c % width ≡ 0 → length c ≡ width * row_count c
unfolding row_count width
whole c e = omega arith

pub read_words : (atoms : ℕ) (c : List ℕ) → ClausesRead atoms c → length c ≡ width * row_count c
read_words atoms c r = whole c (read_whole atoms c r)

module _ (w c : List ℕ) (atoms most rows : ℕ) (r : Round w c atoms most rows) where
  abbrev t : Task
  t = task_of w

  abbrev C : List (List ℕ)
  C = clauses_of c

  few : t.atoms ≤ most_atoms
  few = let e = r.read.counted in let h = r.read.few in omega arith

  good : (f : List ℕ) → Memᴰ f C → GoodClause t.atoms most f
  good f m = good_sets t most r.before r.some_literal f (subst (λ (D : List (List ℕ)). Memᴰ f D) r.set m)

  order : up C ≡ true
  order = subst (λ (D : List (List ℕ)). up D ≡ true) (sym r.set) (up_sets t most r.before)

  anti : Antichain C
  anti = subst (λ (D : List (List ℕ)). Antichain D) (sym r.set) (sets_antichain t most r.before)

  -- the words of the clauses fit into the rows
  pub round_words : length c ≤ width * rows
  round_words =
      let a = mul-le-mul_left width r.size in
      let b = read_words atoms c r.read.clauses in
      omega arith

  module _ (flags : List ℕ) (failing : flags ≡ map (λ f. bit (fails_below t C (length t.operators) f)) C) where
    -- the rows without a flag are those of the survivors
    survivor_words : words_without c flags ≡ clause_words (survivors t C)
    unfolding words_without rows_without clause_words survivors
    survivor_words =
        each_agree (rows_without c flags) (λ i. here (get_or C i [])) (range 0 (row_count c)) (λ i m. row i (range_of 0 (row_count c) m).1)
        ∙ ap (λ (k : ℕ). each (λ i. here (get_or C i [])) (range 0 k)) (sym (clauses_length c))
        ∙ each_places here [] C
        ∙ sym (each_keep row_of (λ f. all (λ o. kept t.atoms C o f) t.operators) C)
      where
        here : List ℕ → List ℕ
        here f = cond (all (λ o. kept t.atoms C o f) t.operators) (row_of f) []

        row : (i : ℕ) → i < 0 + row_count c → rows_without c flags i ≡ here (get_or C i [])
        row i h =
            let l : length flags ≡ row_count c = flags_length (fails_below t C (length t.operators)) C flags failing ∙ clauses_length c in
            let q : i < row_count c = omega arith in
            rw (
              flag_has (fails_below t C (length t.operators)) C flags failing i (omega arith),
              fails_all t C (get_or C i []),
              row_at_lem atoms c (read_right atoms c r.read.clauses) i q,
            )
            (cond_not (all (λ o. kept t.atoms C o (get_or C i [])) t.operators) [] (row_of (get_or C i [])))

    survivors_good : Goods most_atoms (survivors t C)
    unfolding survivors
    survivors_good f m =
        let g = good f (keep_of (λ f. all (λ o. kept t.atoms C o f) t.operators) C m).0 in
        record {
          list = list_more t.atoms most_atoms f few g.list;
          some_literal = g.some_literal;
          most = (let a = g.most in let b = r.narrow in omega arith);
        }

    module _ (k : ℕ) (v : List ℕ) (copied : Copied c flags v k) (fits : width * rows ≤ length v) where
      size : length (survivors t C) ≡ k
      size =
          cancel (length (survivors t C)) k
          (sym (words_length most_atoms width (omega arith) (omega arith) (survivors t C) survivors_good)
          ∙ ap length (sym survivor_words)
          ∙ copied.size)

      inside : k ≤ rows
      inside = let a = copied.few in let b = r.size in omega arith

      pub survivors_room : Room rows k v
      survivors_room = room_of rows k v (survivors t C) inside r.few fits survivors_good (survivors_up t C order) size (copied.words ∙ survivor_words)

      survivors_held : held k v ≡ survivors t C
      survivors_held = held_of rows k v (survivors t C) inside r.few fits survivors_good (survivors_up t C order) size (copied.words ∙ survivor_words)

      pub next_set_built : put_all rows (added_from t C 1 (most - 1)) (some (held k v)) ≡ fitted rows (next t most C)
      next_set_built =
          ap (λ (D : List (List ℕ)). put_all rows (added_from t C 1 (most - 1)) (some D)) survivors_held
          ∙ next_built t most rows C few r.some_literal r.narrow good order anti (rw clauses_length r.size)
