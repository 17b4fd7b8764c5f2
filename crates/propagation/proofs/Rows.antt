-- The walk over the rows: the state between two rows, and a law for each way of the code at a row. Assumes nothing.
use mathlib.Core.Path.{◌≡◌, sym, ◌∙◌, ap}
use mathlib.Core.Bool.{Bool, true, ◌&&◌}
use mathlib.Core.List.{List, ◌++◌, Memᴰ}
use Prim.Native.Nat.{ℕ, ◌+◌, ◌-◌, ◌*◌, ◌/◌, ◌≤◌, ◌<◌}
use native.Mathlib.Nat.{mul-zero}
use native.Mathlib.Omega.{arith}
use lib.Dec.{eqb}
use lib.ListN.{length, get_or, take, drop, length-append, length-drop}
use lib.Seq.{drop-drop, take-append_seam, drop-append_seam}
use borrow.Author.Tests.{eqb-true}
use Rattle.definitions.specs.Lists.{member}
use Rattle.definitions.specs.Literal.{fill, complement}
use Rattle.definitions.specs.Clauses.{width, clause_of, clause_right, row_at}
use Rattle.definitions.specs.Closure.{has, forces}
use Rattle.definitions.specs.Marks.{marked}
use Rattle.definitions.proofs.ListLaws.{and_left, and_right}
use Rattle.definitions.proofs.LiteralLaws.{below_at, list_low, list_ascends}
use Rattle.definitions.proofs.MarkBits.{mark_inside}
use Rattle.definitions.proofs.RowsRead.{right_row, right_list}
use Rattle.clause.specs.Rows.{row_count, clause_at}
use Rattle.clause.proofs.ReadLaws.{read_right}
use Rattle.propagation.specs.declared.Pass.{Pass}
use Rattle.propagation.specs.declared.Pass.TheVariants.{Same, Grown, Contradictory}
use Rattle.propagation.specs.declared.Scan.{Scan}
use Rattle.propagation.specs.declared.Scan.TheVariants as scan
use Rattle.propagation.specs.Walk.{set_of, RestKept, ComplementInside, open_word, Scanned, forced_of, Forcing, Seeded, Room, Ready, Passed}
use Rattle.propagation.proofs.Sets.{complement_below}
use Rattle.propagation.proofs.View.{view_length, view_has, view_inside, rest_self, rest_on}
use Rattle.propagation.proofs.Scans.{Scanning, scanned_on, scan_start, word_in, scan_same, scan_first, scan_second}
use Rattle.propagation.proofs.Scans.{scan_forced, scan_all, scan_forcing}
use Rattle.propagation.proofs.Scans.{Open, not_open, scan_open, open_word_lem, second_in, second_open, still_open}
use Rattle.propagation.proofs.Steps.{Walk, walk_start, walk_end, pass_row, force_same, force_more, force_clash}
use Rattle.propagation.proofs.Closed.{room_on}

-- between two rows: the marks at the start and now, the answer so far, the literal known to be open, and the words of the rows that are left
pub record Going (clauses first now' : List ℕ) (atoms : ℕ) (stops : Bool) (pass : Pass) (known : ℕ) (rest : List ℕ) (size : ℕ) : Type 0 where
  pub number : ℕ
  pub wide : size ≡ width
  pub left : rest ≡ drop (width * number) clauses
  pub kept : RestKept atoms first now'
  pub state : Walk stops clauses (set_of atoms first) (set_of atoms now') (width * number) pass
  pub opened : Open (set_of atoms now') known

pub going_start :
    (clauses marks : List ℕ) (atoms : ℕ) (stops : Bool) (rest : List ℕ) (size : ℕ) → Ready stops atoms clauses marks → rest ≡ clauses → size ≡ width
    → Going clauses marks marks atoms stops Same fill rest size
going_start clauses marks atoms stops rest size ready e wide =
    record {
      number = 0;
      wide = wide;
      left = rw (mul-zero width) e;
      kept = rest_self atoms marks;
      state = rw (mul-zero width) (walk_start stops clauses (set_of atoms marks) ready.marks.sound);
      opened = not_open (set_of atoms marks);
    }

module _ {clauses first now' : List ℕ} {atoms : ℕ} {stops : Bool} {pass : Pass} {known : ℕ} {rest : List ℕ} {size : ℕ}
    (ready : Ready stops atoms clauses first) (g : Going clauses first now' atoms stops pass known rest size) where
  at : ℕ
  at = width * g.number

  left_length : length rest ≡ length clauses - width * g.number
  left_length = rw g.left (length-drop (width * g.number) clauses)

  pub going_end : length rest < size → RestKept atoms first now' × Passed stops clauses (set_of atoms first) (set_of atoms now') pass
  going_end h = (
    g.kept,
    walk_end stops clauses (set_of atoms first) (set_of atoms now') (width * g.number) pass (omega (arith, left_length, g.wide)) g.state,
  )

  -- at a row
  module _ (row after : List ℕ) (parts : rest ≡ row ++ after) (same : length row ≡ size) where
    long : length row ≡ width
    long = same ∙ g.wide

    inside : width * g.number + width ≤ length clauses
    unfolding width
    inside = let a = length-append row after in let e = ap length parts in omega (arith, left_length, long)

    taken : take width (drop (width * g.number) clauses) ≡ row
    taken = rw (← g.left, parts, ← long) (take-append_seam row after)

    clause_is : clause_at clauses (width * g.number) ≡ clause_of row
    unfolding clause_at
    clause_is = ap clause_of taken

    next_at : width * (g.number + 1) ≡ width * g.number + width
    unfolding width
    next_at = omega arith

    after_left : after ≡ drop (width * g.number + width) clauses
    after_left =
        sym
        (sym (drop-drop width (width * g.number) clauses) ∙ ap (drop width) (sym g.left ∙ parts) ∙ ap (λ (n : ℕ). drop n (row ++ after)) (sym long)
        ∙ drop-append_seam row after)

    number_low : g.number < row_count clauses
    unfolding row_count width
    number_low = omega (arith, inside)

    right : clause_right atoms row ≡ true
    unfolding row_at
    right = rw taken at ((read_right atoms clauses ready.rows).right g.number number_low)

    below : (l : ℕ) → Memᴰ l (clause_of row) → l < 2 * atoms
    below l m = below_at (2 * atoms) (clause_of row) (list_low atoms (clause_of row) (right_list atoms row right)) l m

    pub row_start : Scanning row (set_of atoms now') 0 fill
    row_start =
        scan_start row (set_of atoms now') long (right_row atoms row right)
        (list_ascends atoms (clause_of row) (right_list atoms row right))

    -- the complements of its literals: below 2N, their marks are there, and they are in the set if they are marked
    module _ (l : ℕ) (m : Memᴰ l (clause_of row)) where
      complement_low : complement l < 2 * atoms
      complement_low = complement_below l (2 * atoms) (omega arith) (below l m)

      complement_inside : complement l / 8 < length now'
      complement_inside = omega (arith, mark_inside atoms (complement l) complement_low, ready.marks.room, g.kept.same_length)

      complement_marked : has (set_of atoms now') (complement l) ≡ marked now' (complement l)
      complement_marked = view_has atoms now' (complement l) complement_low

    -- the walk goes on at the next row
    on :
        (ms : List ℕ) (answer : Pass) (u more : ℕ) → more ≡ size → RestKept atoms first ms
        → Walk stops clauses (set_of atoms first) (set_of atoms ms) (width * g.number + width) answer → Open (set_of atoms ms) u
        → Going clauses first ms atoms stops answer u after more
    on ms answer u more e kept k opened =
        record {
          number = g.number + 1;
          wide = e ∙ g.wide;
          left = rw next_at after_left;
          kept = kept;
          state = rw next_at k;
          opened = opened;
        }

    -- its second word
    pub second_asks : (1 < length row) × ComplementInside now' (get_or row 1 0)
    unfolding width
    second_asks = (
      omega (arith, long),
      λ ne. complement_inside (get_or row 1 0) (second_in row (set_of atoms now') row_start ne),
    )

    pub second_next :
        (b : Bool) (more : ℕ) → b ≡ (eqb (get_or row 0 0) known && open_word now' (get_or row 1 0)) → b ≡ true → more ≡ size
        → Going clauses first now' atoms stops pass known after more
    second_next b more test e m =
        let both = sym test ∙ e in
        let one = eqb-true (get_or row 0 0) known (and_left (eqb (get_or row 0 0) known) (open_word now' (get_or row 1 0)) both) in
        let o = open_word_lem now' (get_or row 1 0) (and_right (eqb (get_or row 0 0) known) (open_word now' (get_or row 1 0)) both) in
        let off = complement_marked (get_or row 1 0) (second_in row (set_of atoms now') row_start o.0) ∙ o.1 in
        let two = second_open row (set_of atoms now') row_start o.0 known one g.opened off in
        on now' pass known more m g.kept
        (pass_row stops clauses (set_of atoms first) (set_of atoms now') (width * g.number) inside pass g.state (rw clause_is two)) g.opened

    -- its word k
    module _ {k u : ℕ} (r : Scanning row (set_of atoms now') k u) (h : k < length row) where
      low : k < width
      low = rw long at h

      word_inside : (get_or row k 0 ≡ fill → ⊥) → Memᴰ (get_or row k 0) (clause_of row)
      word_inside ne = word_in row (set_of atoms now') k u r low ne

      pub word_asks : ComplementInside now' (get_or row k 0)
      word_asks ne = complement_inside (get_or row k 0) (word_inside ne)

      module _ (v w : Scan) (adds : Scanned (marked now' (complement (get_or row k 0))) (get_or row k 0) u v) (is : v ≡ w) where
        added : Scanned (has (set_of atoms now') (complement (get_or row k 0))) (get_or row k 0) u w
        added =
            scanned_on (marked now' (complement (get_or row k 0))) (has (set_of atoms now') (complement (get_or row k 0))) (get_or row k 0) u w
            (λ ne. complement_marked (get_or row k 0) (word_inside ne)) (rw is at adds)

      pub word_same :
          (v : Scan) → Scanned (marked now' (complement (get_or row k 0))) (get_or row k 0) u v → v ≡ scan.Same
          → Scanning row (set_of atoms now') (k + 1) u
      word_same v adds is = scan_same row (set_of atoms now') k u r low (added v scan.Same adds is)

      pub word_first :
          (v : Scan) → Scanned (marked now' (complement (get_or row k 0))) (get_or row k 0) u v → v ≡ scan.First
          → Scanning row (set_of atoms now') (k + 1) (get_or row k 0)
      word_first v adds is =
          let a = added v scan.First adds is in
          scan_first row (set_of atoms now') k u r low (view_inside atoms now' (get_or row k 0) (below (get_or row k 0) (word_inside a.0))) a

      pub word_second :
          (v : Scan) (more : ℕ) → Scanned (marked now' (complement (get_or row k 0))) (get_or row k 0) u v → v ≡ scan.Second → more ≡ size
          → Going clauses first now' atoms stops pass u after more
      word_second v more adds is m =
          let two = scan_second row (set_of atoms now') k u r low (added v scan.Second adds is) in
          on now' pass u more m g.kept
          (pass_row stops clauses (set_of atoms first) (set_of atoms now') (width * g.number) inside pass g.state (rw clause_is two))
          (scan_open row (set_of atoms now') k u r)

    -- the whole row is scanned
    module _ {k u : ℕ} (r : Scanning row (set_of atoms now') k u) (past : length row ≤ k) where
      all_words : width ≤ k
      all_words = rw long at past

      pub row_asks : Room stops atoms now' × Forcing atoms (set_of atoms now') row u
      row_asks = (
        room_on stops atoms clauses first now' ready g.kept g.state.reached.sound,
        scan_forcing row (set_of atoms now') k u r all_words atoms (view_length atoms now') below,
      )

      -- what followed from it: the marks then, and the answer
      module _ (ms : List ℕ) (answer : Pass) (kept : RestKept atoms now' ms)
          (did : Seeded stops (set_of atoms now') (forced_of row u) (set_of atoms ms) answer) where
        forced : (l : ℕ) → member l (forced_of row u) ≡ true → forces (set_of atoms now') l (clause_at clauses (width * g.number)) ≡ true
        forced l m = rw clause_is (scan_forced row (set_of atoms now') k u r all_words l m)

        all : (l : ℕ) → forces (set_of atoms now') l (clause_at clauses (width * g.number)) ≡ true → member l (forced_of row u) ≡ true
        all l f = scan_all row (set_of atoms now') k u r all_words l (rw clause_is at f)

        kept_on : RestKept atoms first ms
        kept_on = rest_on atoms first now' ms g.kept kept

        pub row_same : answer ≡ Same → (more : ℕ) → more ≡ size → Going clauses first ms atoms stops pass u after more
        row_same e more m =
            let p : Seeded stops (set_of atoms now') (forced_of row u) (set_of atoms ms) Same = rw e at did in
            on ms pass u more m kept_on
            (force_same stops clauses (set_of atoms first) (set_of atoms now') (width * g.number) inside pass g.state (forced_of row u) (set_of atoms ms)
            forced all p)
            (rw p.0 (scan_open row (set_of atoms now') k u r))

        pub row_more : answer ≡ Grown → (more : ℕ) → more ≡ size → Going clauses first ms atoms stops Grown u after more
        row_more e more m =
            let p : Seeded stops (set_of atoms now') (forced_of row u) (set_of atoms ms) Grown = rw e at did in
            on ms Grown u more m kept_on
            (force_more stops clauses (set_of atoms first) (set_of atoms now') (width * g.number) inside pass g.state (forced_of row u) (set_of atoms ms)
            forced all p)
            (still_open stops (set_of atoms now') (set_of atoms ms) row u (scan_open row (set_of atoms now') k u r) p.0)

        pub row_met : answer ≡ Contradictory → RestKept atoms first ms × Passed stops clauses (set_of atoms first) (set_of atoms ms) Contradictory
        row_met e = (
          kept_on,
          force_clash stops clauses (set_of atoms first) (set_of atoms now') (width * g.number) inside pass g.state (forced_of row u) (set_of atoms ms)
              forced all (rw e at did),
        )
