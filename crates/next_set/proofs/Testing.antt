-- All clauses tested under all operators. Assumes nothing.
use mathlib.Core.Bool.{Bool, true, false, not, ◌&&◌, ◌||◌}
use mathlib.Core.Path.{◌≡◌, refl, ◌∙◌, ap}
use mathlib.Core.List.{List, [], ◌∷◌, ◌++◌, map, Memᴰ}
use Prim.Native.Nat.{ℕ, zero, suc, ◌+◌, ◌≤◌, ◌<◌}
use native.Mathlib.Numerals.{add-one}
use native.Mathlib.Omega.{arith}
use lib.Dec.{eqb}
use lib.ListN.{length, get_or, take, replicate}
use lib.Seq.{take-suc, take-length}
use Rattle.definitions.specs.Lists.{any, all}
use Rattle.definitions.specs.Image.{most_operators, Operator, Task}
use Rattle.definitions.specs.Clauses.{width}
use Rattle.definitions.specs.Step.{no_operator, operator_at}
use Rattle.definitions.specs.Closure.{bit}
use Rattle.definitions.specs.Kept.{kept}
use Rattle.definitions.specs.Synthesis.{tested, passes}
use Rattle.clause.specs.Rows.{clauses_of}
use Rattle.clause.proofs.ClauseLaws.{clause_good}
use Rattle.clause.proofs.ReadLaws.{read_right}
use Rattle.task.specs.Reads.{task_of, Reads}
use Rattle.task.proofs.Questions.{task_read}
use Rattle.task.specs.Post.{BlockGiven}
use Rattle.judge.specs.Judging.{flag_more}
use Rattle.judge.specs.Promise.{Judged, BulkGiven, Read}
use Rattle.judge.proofs.Keeping.{given_operator}
use Rattle.propagation.proofs.MarkedSets.{bit_back}
use Rattle.next_set.specs.Build.{fails_below}
use Rattle.next_set.specs.Post.{ReadWithRoom, TestedWithRoom, WeakensAt}
use Rattle.next_set.proofs.Flags.{flag_map}
use Rattle.next_set.proofs.NextSet.{all_pass}

-- ---- one operator
pub read_judged : (w c : List ℕ) (atoms : ℕ) → Read w c atoms → Judged atoms c
read_judged w c atoms r = record { right = (read_right atoms c r.clauses).right }

-- what judging asks, of the operator of a block
pub read_bulk :
    (w c b : List ℕ) (atoms i : ℕ) (marks fails : List ℕ) → ReadWithRoom w c atoms marks fails → i < length (task_of w).operators
    → BlockGiven b (task_of w) i → BulkGiven atoms c c b marks fails
read_bulk w c b atoms i marks fails r h g =
    let q = r.read in
    record {
      given = given_operator w c b atoms i q.task q.counted q.few h q.clauses g;
      judged = read_judged w c atoms q;
      room = r.room;
      flagged = r.flagged;
    }

pub few_operators : (w : List ℕ) → Reads w → length (task_of w).operators ≤ most_operators
few_operators w r = (task_read w r).few_operators

-- the numbers of literals of the clauses
pub read_sizes : (w c : List ℕ) (atoms : ℕ) → Read w c atoms → (f : List ℕ) → Memᴰ f (clauses_of c) → (1 ≤ length f) × (length f ≤ width)
read_sizes w c atoms r f m =
    let g = clause_good atoms c (read_right atoms c r.clauses) f m in
    (g.some_literal, g.most)

-- room of the same length serves as well
module _ (w c : List ℕ) (atoms : ℕ) where
  pub tested_on :
      (due marks fails marks' fails' : List ℕ) → length marks' ≡ length marks → length fails' ≡ length fails
      → TestedWithRoom w c atoms due marks fails → TestedWithRoom w c atoms due marks' fails'
  tested_on due marks fails marks' fails' m f r =
      let g = r.given in
      record {
        given = record { read = g.read; room = (let h = g.room in omega arith); flagged = f ∙ g.flagged };
        noted = r.noted;
      }

  pub weakens_on :
      (k : ℕ) (due marks fails marks' fails' : List ℕ) → length marks' ≡ length marks → length fails' ≡ length fails
      → WeakensAt w c atoms k due marks fails → WeakensAt w c atoms k due marks' fails'
  weakens_on k due marks fails marks' fails' m f r =
      record { tested = tested_on due marks fails marks' fails' m f r.tested; some_literal = r.some_literal; short = r.short }

-- ---- all operators
module _ (t : Task) (C : List (List ℕ)) where
  -- before the first operator
  pub fails_start : replicate (length C) 0 ≡ map (λ f. bit (fails_below t C 0 f)) C
  unfolding fails_below bit
  fails_start = go C
    where
      go : (D : List (List ℕ)) → replicate {A = ℕ} (length D) 0 ≡ map (λ f. 0) D
      go [] = refl
      go (f ∷ D) = ap (λ (l : List ℕ). 0 ∷ l) (go D)

  pub fails_on :
      (atoms j : ℕ) (s s' : List ℕ) → atoms ≡ t.atoms → s ≡ map (λ f. bit (fails_below t C j f)) C
      → s' ≡ flag_more (λ f. not (kept atoms C (operator_at t j) f)) C s → s' ≡ map (λ f. bit (fails_below t C (j + 1) f)) C
  unfolding fails_below
  fails_on atoms j s s' counted inv h =
      h
      ∙ ap (λ (m : ℕ). flag_more (λ f. not (kept m C (operator_at t j) f)) C s) counted
      ∙ ap (flag_more (λ f. not (kept t.atoms C (operator_at t j) f)) C) inv
      ∙ flag_map (λ f. not (kept t.atoms C (operator_at t j) f)) (fails_below t C j) C
      ∙ rw add-one

  -- a clause passes exactly if it fails under none of the operators
  below_all :
      (f : List ℕ) (os : List Operator) (j : ℕ) → j ≤ length os → ((i : ℕ) → i < j → get_or os i no_operator ≡ operator_at t i)
      → fails_below t C j f ≡ not (all (λ o. kept t.atoms C o f) (take j os))
  unfolding fails_below all
  below_all f os zero h e = refl
  below_all f os (suc j) h e =
      rw (take-suc os j no_operator (omega arith), below_all f os j (omega arith) (λ i k. e i (omega arith)), e j (omega arith))
      (last (take j os) (operator_at t j))
    where
      last :
          (xs : List Operator) (o : Operator)
          → (not (kept t.atoms C o f) || not (all (λ o. kept t.atoms C o f) xs)) ≡ not (all (λ o. kept t.atoms C o f) (xs ++ (o ∷ [])))
      last [] o = one (kept t.atoms C o f)
        where
          one : (b : Bool) → (not b || not true) ≡ not (b && true)
          one true = refl
          one false = refl
      last (x ∷ xs) o =
          both (kept t.atoms C o f) (kept t.atoms C x f) (all (λ o. kept t.atoms C o f) xs)
          (all (λ o. kept t.atoms C o f) (xs ++ (o ∷ []))) (last xs o)
        where
          both : (a b c d : Bool) → (not a || not c) ≡ not d → (not a || not (b && c)) ≡ not (b && d)
          both true true c d h = h
          both true false c d h = refl
          both false true c d h = h
          both false false c d h = refl

  pub fails_all : (f : List ℕ) → fails_below t C (length t.operators) f ≡ not (all (λ o. kept t.atoms C o f) t.operators)
  unfolding operator_at
  fails_all f = below_all f t.operators (length t.operators) (omega arith) (λ i h. refl) ∙ rw (take-length t.operators)

  -- no flag exactly if all pass
  pub none_flagged :
      (flags : List ℕ) → flags ≡ map (λ f. bit (fails_below t C (length t.operators) f)) C
      → any (λ x. eqb x 1) flags ≡ not (all passes (tested t C))
  unfolding tested any all
  none_flagged flags e = rw (e, all_pass t C C) (go C)
    where
      or_not : (a b : Bool) → (not a || not b) ≡ not (a && b)
      or_not true b = refl
      or_not false b = refl

      go :
          (D : List (List ℕ)) → any (λ x. eqb x 1) (map (λ f. bit (fails_below t C (length t.operators) f)) D) ≡ not
          (all (λ f. all (λ o. kept t.atoms C o f) t.operators) D)
      go [] = refl
      go (f ∷ D) =
          rw (bit_back (fails_below t C (length t.operators) f), fails_all f, go D)
          (or_not (all (λ o. kept t.atoms C o f) t.operators) (all (λ f. all (λ o. kept t.atoms C o f) t.operators) D))
