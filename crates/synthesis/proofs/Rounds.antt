-- What a round comes to, and the rounds one after the other. Assumes nothing.
use mathlib.Core.Bool.{Bool, true, false, cond}
use mathlib.Core.Option.{none, some}
use mathlib.Core.Path.{◌≡◌, refl, sym, ◌∙◌, ap}
use mathlib.Core.List.{List, ◌++◌, map, Memᴰ}
use Prim.Native.Nat.{ℕ, suc, ◌+◌, ◌-◌, ◌*◌, ◌≤◌, ◌<◌}
use native.Mathlib.Omega.{arith}
use native.Mathlib.Nat.{mul-le-mul_left}
use lib.Dec.{eqb}
use lib.Seq.{take_at, length-take-le}
use borrow.Author.Tests.{eqb-true, eqb-false, not-true, not-false}
use lib.ListN.{length, take, drop, replicate}
use Rattle.definitions.specs.Lists.{any, all}
use Rattle.definitions.specs.Answer.{Answer, finding, refuse, outcome}
use Rattle.definitions.specs.Literal.{most_atoms}
use Rattle.definitions.specs.Image.{Task, initial_state}
use Rattle.definitions.specs.Closure.{bit}
use Rattle.definitions.specs.Clauses.{width, most_rows, clause_words}
use Rattle.definitions.specs.Synthesis.{first_set, tested, passes, next, set_at, Found, fits, rounds, buffer_after, made_of}
use Rattle.definitions.specs.Clauses.{GoodClause}
use Rattle.definitions.proofs.ListLaws.{some_none, none_some}
use Rattle.definitions.proofs.SetRight.{good_sets, up_sets}
use Rattle.definitions.proofs.RoundLaws.{rounds_finished, rounds_over, rounds_full, rounds_next}
use Rattle.clause.specs.Rows.{row_count, clauses_of, ClausesRead}
use Rattle.clause.proofs.RowLaws.{clauses_length, rows_of}
use Rattle.clause.proofs.ReadLaws.{read_right}
use Rattle.clause.proofs.WordLaws.{words_back, words_read, words_clauses}
use Rattle.task.specs.Reads.{task_of, Reads}
use Rattle.clause_set.specs.Held.{held, Holds}
use Rattle.std.specs.Prelude as std
use Rattle.clause_set.proofs.Insertion.{held_room, held_size, held_words}
use Rattle.next_set.specs.Build.{fails_below, fitted}
use Rattle.next_set.specs.Post.{Round}
use Rattle.next_set.proofs.Testing.{none_flagged}
use Rattle.synthesis.specs.declared.End.{End}
use Rattle.synthesis.specs.declared.End.TheVariants.{Finished, OutOfRounds, OutOfRows}
use Rattle.synthesis.specs.declared.Step.TheVariants.{Ended}
use Rattle.synthesis.specs.Rounds.{Advanced, Stepped, step_of, ended, Begun}
use Rattle.synthesis.proofs.Units.{units_size}

-- ---- the test
module _
    (t : Task) (C : List (List ℕ)) (flags : List ℕ) (e : flags ≡ map (λ f. bit (fails_below t C (length t.operators) f)) C) (b : Bool)
    (found : b ≡ any (λ x. eqb x 1) flags) where
  pub test_passes : b ≡ false → all passes (tested t C) ≡ true
  test_passes h = not-false (all passes (tested t C)) (sym (found ∙ none_flagged t C flags e) ∙ h)

  pub test_fails : b ≡ true → all passes (tested t C) ≡ false
  test_fails h = not-true (all passes (tested t C)) (sym (found ∙ none_flagged t C flags e) ∙ h)

-- ---- the next set
fits_none : (rows : ℕ) (D : List (List ℕ)) → fitted rows D ≡ none → fits rows D ≡ false
unfolding fitted
fits_none rows D e = go (fits rows D) e
  where
    go : (b : Bool) → cond b (some D) none ≡ none → b ≡ false
    go true q = some_none q
    go false q = refl

fits_some : (rows : ℕ) (D E : List (List ℕ)) → fitted rows D ≡ some E → (fits rows D ≡ true) × (E ≡ D)
unfolding fitted
fits_some rows D E e = go (fits rows D) e
  where
    go : (b : Bool) → cond b (some D) none ≡ some E → (b ≡ true) × (E ≡ D)
    go true q = (refl, cc)
    go false q = none_some q

-- the step to the next set that was built
pub step_built :
    (t : Task) (n rows : ℕ) (last : Bool) (C : List (List ℕ)) (w : List ℕ) (b : std.Option ℕ) → Holds rows b w (fitted rows (next t n C))
    → all passes (tested t C) ≡ false → last ≡ false → Stepped t n rows last C w (step_of b)
step_built t n rows last C w std.None h fails more = (fails, more, fits_none rows (next t n C) h)
step_built t n rows last C w (std.Some k) h fails more =
    let q = fits_some rows (next t n C) (held k w) h.1 in
    record { fails = fails; more = more; few = q.0; room = h.0; set = q.1 }

-- ---- room for the flags
pub few_flags :
    (w c : List ℕ) (atoms n rows : ℕ) → Round w c atoms n rows → (k : ℕ) → k ≡ row_count c
    → (room : List ℕ) → length room ≡ most_rows → k ≤ length room
few_flags w c atoms n rows r k e room h =
    let a = r.size in
    let b = r.few in
    omega arith

-- ---- a set of the synthesis in the first rows of the clause buffer
good_wider : (N n : ℕ) (f : List ℕ) → n ≤ width → GoodClause N n f → GoodClause N width f
good_wider N n f h g = record { list = g.list; some_literal = g.some_literal; most = (let a = g.most in omega arith) }

pub record Standing (w : List ℕ) (atoms n limit rows : ℕ) (c : List ℕ) (count made : ℕ) (a : Answer Found) : Type 0 where
  pub round : Round w (take (width * count) c) atoms n rows
  pub inside : count ≤ rows
  pub room : width * rows ≤ length c
  pub some : 1 ≤ made
  pub allowed : made ≤ limit
  pub left : a ≡ rounds (task_of w) n rows made (limit - made) (clauses_of (take (width * count) c))

-- the set after `before` rounds, with `count` clauses, as words v
record Made-set (w : List ℕ) (atoms n rows before count : ℕ) (v : List ℕ) : Type 0 where
  task : Reads w
  counted : atoms ≡ (task_of w).atoms
  few : atoms ≤ most_atoms
  some_literal : 1 ≤ n
  narrow : n ≤ width
  few_rows : rows ≤ most_rows
  words : v ≡ clause_words (set_at (task_of w) n before)
  size : length (set_at (task_of w) n before) ≡ count
  inside : count ≤ rows

module _ (w : List ℕ) (atoms n rows before count : ℕ) (v : List ℕ) (m : Made-set w atoms n rows before count v) where
  abbrev S : List (List ℕ)
  S = set_at (task_of w) n before

  good : (f : List ℕ) → Memᴰ f S → GoodClause atoms width f
  good f i = rw m.counted (good_wider (task_of w).atoms n f m.narrow (good_sets (task_of w) n before m.some_literal f i))

  few_set : length S ≤ most_rows
  few_set = omega (arith, m.size, m.inside, m.few_rows)

  set_back : clauses_of v ≡ S
  set_back = ap clauses_of m.words ∙ words_clauses atoms S m.few good (up_sets (task_of w) n before) few_set

  set_read : ClausesRead atoms v
  set_read = rw m.words (words_read atoms S m.few good (up_sets (task_of w) n before) few_set)

  set_size : row_count v ≤ rows
  set_size =
      let a = clauses_length v in
      let b = ap length set_back in
      omega (arith, m.size, m.inside)

  set_round : Round w v atoms n rows
  set_round =
      record {
        read = record { task = m.task; counted = m.counted; few = m.few; clauses = set_read };
        before = before;
        set = set_back;
        some_literal = m.some_literal;
        narrow = m.narrow;
        size = set_size;
        few = m.few_rows;
      }

pub first_size : (t : Task) → length (first_set t) ≡ t.atoms
unfolding first_set
first_size t = units_size (initial_state t) t.atoms

pub standing_start :
    (w c v : List ℕ) (atoms n limit rows marks : ℕ) → Begun w c v atoms n limit rows marks
    → Standing w atoms n limit rows c atoms 1 (rounds (task_of w) n rows 1 (limit - 1) (first_set (task_of w)))
unfolding set_at
standing_start w c v atoms n limit rows marks b =
    record {
      round = set_round w atoms n rows 0 atoms first made;
      inside = b.size;
      room = b.room;
      some = omega arith;
      allowed = b.some_round;
      left = ap (rounds (task_of w) n rows 1 (limit - 1)) (sym (set_back w atoms n rows 0 atoms first made));
    }
  where
    first : List ℕ
    first = take (width * atoms) c

    made : Made-set w atoms n rows 0 atoms first
    made =
        record {
          task = b.task;
          counted = b.counted;
          few = b.few;
          some_literal = b.some_literal;
          narrow = b.narrow;
          few_rows = b.few_rows;
          words = b.words;
          size = first_size (task_of w) ∙ sym b.counted;
          inside = b.size;
        }

module _ (w : List ℕ) (atoms n limit rows : ℕ) (c : List ℕ) (count made : ℕ) (a : Answer Found) (s : Standing w atoms n limit rows c count made a) where
  abbrev t : Task
  t = task_of w

  abbrev C : List (List ℕ)
  C = clauses_of (take (width * count) c)

  standing_words : width * count ≤ length c
  standing_words =
      let h = mul-le-mul_left width s.inside in
      let r = s.room in
      omega arith

  below_limit : made ≤ limit → (made ≡ limit → ⊥) → made < limit
  below_limit h ne = omega arith

  standing_below : eqb made limit ≡ false → made < limit
  standing_below e = below_limit s.allowed (eqb-false made limit e)

  -- a round that has a next set, of k rows, in the work buffer v
  module _ (k : ℕ) (v c' : List ℕ) (h : Advanced t n rows (eqb made limit) C v k) where
    next_words : width * k ≤ length v
    next_words = held_room rows k v h.room

    next_room : width * k ≤ length c
    next_room =
        let i = mul-le-mul_left width h.room.inside in
        let r = s.room in
        omega arith

    abbrev later : ℕ
    later = suc s.round.before

    next_set : held k v ≡ set_at t n later
    unfolding set_at
    next_set = h.set ∙ ap (next t n) s.round.set

    module _ (e : c' ≡ take (width * k) v ++ drop (width * k) c) (same : length c' ≡ length c) where
      front : take (width * k) c' ≡ take (width * k) v
      front = ap (take (width * k)) e ∙ take_at (take (width * k) v) (drop (width * k) c) (width * k) (length-take-le (width * k) v next_words)

      made_next : Made-set w atoms n rows later k (take (width * k) c')
      made_next =
          let r = s.round in
          record {
            task = r.read.task;
            counted = r.read.counted;
            few = r.read.few;
            some_literal = r.some_literal;
            narrow = r.narrow;
            few_rows = r.few;
            words = front ∙ sym (held_words rows k v h.room) ∙ ap clause_words next_set;
            size = ap length (sym next_set) ∙ held_size rows k v h.room;
            inside = h.room.inside;
          }

      pub standing_next : Standing w atoms n limit rows c' k (made + 1) a
      standing_next =
          let below = standing_below h.more in
          record {
            round = set_round w atoms n rows later k (take (width * k) c') made_next;
            inside = h.room.inside;
            room = (let z = s.room in omega arith);
            some = omega arith;
            allowed = omega arith;
            left =
                s.left
                ∙ rounds_next t n rows made C h.fails (limit - made) (limit - (made + 1)) (omega arith) h.few
                ∙ ap (rounds t n rows (made + 1) (limit - (made + 1)))
                (sym h.set ∙ next_set ∙ sym (set_back w atoms n rows later k (take (width * k) c') made_next));
          }

  -- no clause fails
  standing_found :
      (c₀ : List ℕ) → length c ≡ length c₀ → all passes (tested t C) ≡ true
      → ended c count made Finished ≡ outcome (made_of a) (buffer_after c₀ a)
  unfolding made_of buffer_after outcome
  standing_found c₀ same h =
      let f = s.left ∙ rounds_finished t n rows made C (limit - made) h in
      let first = take (width * count) c in
      let back : clause_words C ≡ first = words_back atoms first (read_right atoms first s.round.read.clauses) in
      let long : length first ≡ width * count = length-take-le (width * count) c standing_words in
      let size : length C ≡ count = clauses_length first ∙ rows_of first count long in
      rw (f, back, long, size, ← same)

  -- where the rounds end
  pub standing_end :
      (c₀ : List ℕ) → length c ≡ length c₀ → (v : List ℕ) (e : End) → Stepped t n rows (eqb made limit) C v (Ended e)
      → ended c count made e ≡ outcome (made_of a) (buffer_after c₀ a)
  unfolding made_of buffer_after outcome refuse
  standing_end c₀ same v Finished h = standing_found c₀ same h
  standing_end c₀ same v OutOfRounds h =
      let m = eqb-true made limit h.1 in
      let f = s.left ∙ rounds_over t n rows made C h.0 (limit - made) (omega arith) in
      rw (f, same)
  standing_end c₀ same v OutOfRows h =
      let below = standing_below h.1 in
      let f = s.left ∙ rounds_full t n rows made C h.0 (limit - made) (limit - (made + 1)) (omega arith) h.2 in
      rw (f, same)

-- the answer of a finding
pub end_found :
    (c x : List ℕ) (count made : ℕ) (e : End) → e ≡ Finished → x ≡ take (width * count) c ++ replicate (length c - width * count) 0
    → outcome (finding (record { rows = count; rounds = made })) x ≡ ended c count made e
end_found c x count made e h q = rw (h, q)

-- ---- zeros
pub cleared :
    {A : Type 0} (x a : Answer A) (y old : List ℕ) → x ≡ a → y ≡ take 0 old ++ replicate (length old - 0) 0
    → outcome x y ≡ outcome a (replicate (length old) 0)
unfolding outcome
cleared x a y old e q =
    let z : length old - 0 ≡ length old = omega arith in
    rw (e, q, z)
