-- Laws of the calls: states of a re-encoded task, and questions 19 to 22. Assumes nothing.
use mathlib.Core.Path.{◌≡◌, refl, sym, ap, ◌∙◌, subst}
use mathlib.Core.List.{List, map, Memᴰ}
use mathlib.Core.Bool.{Bool, true, false, not, ◌&&◌}
use mathlib.Core.Option.{Option, none, some}
use Prim.Native.Nat.{ℕ, ◌-◌, ◌≤◌, ◌<◌}
use native.Mathlib.Omega.{arith}
use lib.ListN.{length, get_or}
use lib.Dec.{ltb, leb}
use borrow.Author.Tests.{lt-ltb, ltb-true, leb-true}
use Rattle.definitions.specs.Lists.{all, below}
use Rattle.definitions.specs.Answer.{finding}
use Rattle.definitions.specs.Literal.{most_atoms}
use Rattle.definitions.specs.Groups.{Domain}
use Rattle.definitions.specs.Fdr.{FdrRow, FdrOperator, no_domain, atom_values, fdr_all_true}
use Rattle.definitions.specs.FdrImage.{is_atom_value, fdr_literal_right, fdr_row_right, fdr_operator_right}
use Rattle.definitions.specs.FdrStep.{is_fdr_state, fdr_fired, fdr_conflict, none_there, fdr_after}
use Rattle.definitions.proofs.ListLaws.{and_left, and_right, all_at, all_of, keep_of}
use Rattle.answer.specs.Reader.{state_answer}
use Rattle.answer.proofs.ReaderCalls.{image_fine, state_is}
use Rattle.fdr_image.specs.Reads.{fdr_of, ReadsFdr}
use Rattle.fdr_image.specs.Walk.{operator_in}
use Rattle.fdr_image.specs.Post.{BlockGiven}
use Rattle.fdr_image.proofs.DomainLaws.{values_length, values_some}
use Rattle.fdr_image.proofs.Reading.{reads, variables_are, initial_right}
use Rattle.fdr.specs.Change.{no_changes, noted, note_fired, nones_in, written, unnoted}
use Rattle.fdr.specs.Post.{fdr_reader, Standing, Applying, LowBlock, Changes, Writes, NotedFor}
use Rattle.fdr.proofs.StepLaws.{Rows}
use Rattle.fdr.proofs.Applied.{blank_length, conflict, not_in_conflict, nones_there, changed, nones_is, changed_is, changes_inside}
use Rattle.fdr.proofs.ByRows.{nones_by_rows, written_is, notes_gone}

-- questions 17 and 18 are answered yes
pub standing : (w s : List ℕ) → finding tt ≡ state_answer fdr_reader w s → Standing w s
unfolding is_fdr_state
standing w s yes-18 =
    let rd = reads w (image_fine fdr_reader w s yes-18) in
    record { reads = rd; size = values_length (fdr_of w).domains s (state_is fdr_reader w s yes-18 (fdr_of w) rd.found) }

-- the initial values fit a state of the length of the domains
pub initial_fits :
    (w : List ℕ) → ReadsFdr w → (s xs : List ℕ) (n : ℕ) → n ≡ length (fdr_of w).domains → length s ≡ n → xs ≡ (fdr_of w).initial
    → length xs ≡ length s
initial_fits w rd s xs n en es ex =
    ap length ex ∙ values_length (fdr_of w).domains (fdr_of w).initial (initial_right w rd) ∙ sym en ∙ sym es

-- ---- right rows
row_tests :
    (D : List Domain) (r : FdrRow) → fdr_row_right D r ≡ true
    → (r.kind ≤ 1) × (r.variable < length D) × (r.value < (get_or D r.variable no_domain).values)
unfolding fdr_row_right is_atom_value atom_values
row_tests D r h =
    let k = leb r.kind 1 in
    let v = ltb r.variable (length D) in
    let x = ltb r.value (atom_values (get_or D r.variable no_domain)) in
    let p = and_left (k && (v && x)) (all (fdr_literal_right D) r.conditions) h in
    let q = and_right k (v && x) p in
    let y = ltb-true r.value ((get_or D r.variable no_domain).values - (get_or D r.variable no_domain).none) (and_right v x q) in
    (leb-true r.kind 1 (and_left k (v && x) p), ltb-true r.variable (length D) (and_left v x q), omega arith)

module _ (D : List Domain) (o : FdrOperator) (few : length D ≤ most_atoms) (right : fdr_operator_right D o ≡ true) where
  row_right_lem : (r : FdrRow) → Memᴰ r o.rows → (r.kind ≤ 1) × (r.variable < length D) × (r.value < (get_or D r.variable no_domain).values)
  unfolding fdr_operator_right
  row_right_lem r mem = row_tests D r (all_at (fdr_row_right D) (and_right (all (fdr_literal_right D) o.precondition) (all (fdr_row_right D) o.rows) right) mem)

  pub low_rows : (most : ℕ) → length D ≤ most → all (λ r. ltb r.variable most) o.rows ≡ true
  low_rows most h =
      all_of (λ r. ltb r.variable most) o.rows (λ r mem. lt-ltb r.variable most (let z = (row_right_lem r mem).1 in omega arith))

  pub fired_low : (s : List ℕ) → Rows most_atoms (fdr_fired s o)
  unfolding fdr_fired
  fired_low s r mem =
      let z = row_right_lem r (keep_of (λ r. fdr_all_true s r.conditions) o.rows mem).0 in
      let y = z.1 in
      (omega arith, z.0)

  pub fired_inside : (s : List ℕ) (r : FdrRow) → Memᴰ r (fdr_fired s o) → r.value < (get_or D r.variable no_domain).values
  unfolding fdr_fired
  fired_inside s r mem = (row_right_lem r (keep_of (λ r. fdr_all_true s r.conditions) o.rows mem).0).2

-- ---- what is noted of the rows that fire
noted_none : (f : Bool) (m : List ℕ) (o : Option (List ℕ)) → noted f m ≡ o → f ≡ false → o ≡ none
unfolding noted
noted_none f m o e h = sym e ∙ ap (λ (b : Bool). noted b m) h

noted_some : (f : Bool) (m : List ℕ) (o : Option (List ℕ)) → noted f m ≡ o → f ≡ true → o ≡ some m
unfolding noted
noted_some f m o e h = sym e ∙ ap (λ (b : Bool). noted b m) h

-- ---- the rows of a block, by what is noted
module _ (w b s m₀ : List ℕ) (a : Applying w b s m₀) where
  abbrev fired : List FdrRow
  fired = fdr_fired s (operator_in b)

  few : length (fdr_of w).domains ≤ most_atoms
  few = let z = variables_are w a.standing.reads in let y = z.0 in let x = z.1 in omega arith

  low_below : (most : ℕ) → length (fdr_of w).domains ≤ most → LowBlock most b
  low_below most h = record { parses = a.parses; low = low_rows (fdr_of w).domains (operator_in b) few a.right most h }

  pub low_block : LowBlock most_atoms b
  low_block = low_below most_atoms few

  pub blank_size : length m₀ ≡ most_atoms
  blank_size = ap length a.blank ∙ blank_length

  rows : Rows most_atoms fired
  rows = fired_low (fdr_of w).domains (operator_in b) few a.right s

  -- all is noted, and cleared afterwards
  pub notes_cleared :
      (m m' : List ℕ) → length m ≡ length m₀ → NotedFor (operator_in b).rows m₀ m → m' ≡ unnoted (operator_in b).rows m
      → m' ≡ m₀
  notes_cleared m m' el nf e = notes_gone (operator_in b).rows m₀ m m' a.blank el nf e

  module _ (m : List ℕ) (f : Bool) (e : noted f m ≡ note_fired s fired m₀) where
    from_blank : noted f m ≡ note_fired s fired no_changes
    from_blank = e ∙ ap (note_fired s fired) a.blank

    -- question 21
    pub free_is : f ≡ not (fdr_conflict fired)
    free_is = go f refl
      where
        go : (b : Bool) → f ≡ b → f ≡ not (fdr_conflict fired)
        go true h = h ∙ sym (ap not (not_in_conflict s fired rows m (noted_some f m (note_fired s fired no_changes) from_blank h)))
        go false h = h ∙ sym (ap not (conflict s fired rows (noted_none f m (note_fired s fired no_changes) from_blank h)))

    module _ (free : f ≡ true) where
      all_noted : note_fired s fired no_changes ≡ some m
      all_noted = noted_some f m (note_fired s fired no_changes) from_blank free

      module _ (D : List Domain) (eD : D ≡ (fdr_of w).domains) where
        low_variables : LowBlock (length D) b
        low_variables = low_below (length D) (let z : length D ≡ length (fdr_of w).domains = ap length eD in omega arith)

        changes_there : Changes D m
        changes_there =
            subst (λ (x : List Domain). Changes x m) (sym eD)
            (changes_inside s fired rows m all_noted (fdr_of w) few
            (values_some (fdr_of w).domains (fdr_of w).initial (initial_right w a.standing.reads))
            (fired_inside (fdr_of w).domains (operator_in b) few a.right s))

        pub nones_asked : LowBlock (length D) b × Changes D m
        nones_asked = (low_variables, changes_there)

        pub writes : Writes D b m s
        writes = record { block = low_variables; changes = changes_there; size = a.standing.size ∙ sym (ap length eD) }

        module _ (nf₀ : NotedFor (operator_in b).rows m₀ m) where
          nf : NotedFor (operator_in b).rows no_changes m
          nf = subst (λ (l : List ℕ). NotedFor (operator_in b).rows l m) a.blank nf₀

          -- question 22
          pub nones_are : (r : Bool) → r ≡ nones_in D m (operator_in b).rows → r ≡ none_there (fdr_of w) s fired
          nones_are r er =
              er ∙ nones_by_rows D m (operator_in b).rows nf low_variables.low ∙ ap (λ (x : List Domain). nones_there x m) eD
              ∙ nones_is s fired rows m all_noted (fdr_of w)

          -- the state after the step
          pub rows_done :
              (s' : List ℕ) → s' ≡ written D m (operator_in b).rows s
              → s' ≡ map (fdr_after (fdr_of w) s fired) (below (length (fdr_of w).domains))
          rows_done s' es =
              es ∙ written_is D m (operator_in b).rows nf s ∙ ap (λ (x : List Domain). changed x m 0 s) eD
              ∙ changed_is s fired rows m all_noted (fdr_of w) a.standing.size

-- what a step by a block asks
pub applying :
    (w b s m : List ℕ) (i : ℕ) → Standing w s → m ≡ no_changes → BlockGiven b (fdr_of w) i → Applying w b s m
applying w b s m i st em g = record { standing = st; parses = g.parses; right = g.right; blank = em }
