-- `propagation::saturate`: walks, from set to set, until nothing is marked.
use mathlib.Core.Path.{◌≡◌, subst}
use mathlib.Core.Bool.{Bool}
use mathlib.Core.List.{List}
use Prim.Native.Nat.{ℕ}
use Rattle.clause.specs.Rows.{clauses_of}
use Rattle.propagation.specs.declared.Pass.{Pass}
use Rattle.propagation.specs.declared.Pass.TheVariants.{Same, Grown, Contradictory}
use Rattle.propagation.specs.Walk.{set_of, zeros, RestKept, Reached, Passed}
use Rattle.propagation.proofs.View.{rest_self, rest_on}
use Rattle.propagation.proofs.Steps.{reached_self, reached_on}
use Rattle.propagation.proofs.Closed.{ready_on, saturate_same, saturate_clash}
use Rattle.propagation.proofs.saturate.Statement.{statement}
use Rattle.propagation.proofs.saturate.Tie as tie

abbrev invariant-loop : tie.invariant-loop
invariant-loop clauses marks₀ atoms stops marks =
    RestKept atoms marks₀ marks × Reached stops (clauses_of clauses) (set_of atoms marks₀) (set_of atoms marks)

abbrev decreases-loop : tie.decreases-loop
decreases-loop clauses marks₀ atoms stops marks = zeros (set_of atoms marks)

-- at the loop's head: the start, the clause words, the marks at the start
abbrev start : tie.At-loop invariant-loop decreases-loop → tie.Start invariant-loop decreases-loop
start h = h.before.before.before

-- after a walk: the head, the words, and what the walk did
abbrev walked : Type 0
walked = tie.After-walk-pass invariant-loop decreases-loop

abbrev head : walked → tie.At-loop invariant-loop decreases-loop
head d = d.before.before

abbrev words : walked → List ℕ
words d = (start (head d)).args.clauses.now

abbrev atoms : walked → ℕ
atoms d = (start (head d)).args.atoms

abbrev stops : walked → Bool
stops d = (start (head d)).args.stops

abbrev marks_first : walked → List ℕ
marks_first d = (start (head d)).args.marks.now

abbrev set_now : walked → List ℕ
set_now d = set_of (atoms d) (head d).loop.marks

abbrev set_after : walked → List ℕ
set_after d = set_of (atoms d) d.walk-pass.new.marks

did : (d : walked) (v : Pass) → d.walk-pass.result ≡ v → Passed (stops d) (words d) (set_now d) (set_after d) v
did d v e = subst (λ (x : Pass). Passed (stops d) (words d) (set_now d) (set_after d) x) e d.walk-pass.ensures.1

rest_after : (d : walked) → RestKept (atoms d) (marks_first d) d.walk-pass.new.marks
rest_after d = rest_on (atoms d) (marks_first d) (head d).loop.marks _ (head d).loop.invariant.0 d.walk-pass.ensures.0

-- where its answer is looked at
abbrev walk_of : tie.After-slice_known-in-loop-1 invariant-loop decreases-loop → walked
walk_of c = c.before.before

loop-holds : tie.Need-loop-init invariant-loop decreases-loop
loop-holds c = (rest_self _ _, reached_self _ _ _ c.requires.marks.sound)

walk-requires : tie.Need-walk-pass-requires invariant-loop decreases-loop
walk-requires c κs = let h = c.before in ready_on _ _ _ _ _ (start h).requires h.loop.invariant.0 h.loop.invariant.1.sound

enum_told : tie.Need-enum_told-1 invariant-loop decreases-loop
enum_told c = c.in-Same-1.keys1

same_length : tie.Need-shape_of-marks-in-Same invariant-loop decreases-loop
same_length c = (rest_after (walk_of c.before)).same_length

returns : tie.Need-returns-in-Same invariant-loop decreases-loop
returns c =
    let d = walk_of c.before in
    (rest_after d, saturate_same _ _ _ _ _ (head d).loop.invariant.1 (did d Same c.in-Same.is))

enum-told-2 : tie.Need-enum_told-in-Contradictory invariant-loop decreases-loop
enum-told-2 c = c.in-Contradictory-1.keys2

same-length-2 : tie.Need-shape_of-marks-in-Contradictory invariant-loop decreases-loop
same-length-2 c = (rest_after (walk_of c.before)).same_length

returns-2 : tie.Need-returns-in-Contradictory invariant-loop decreases-loop
returns-2 c =
    let d = walk_of c.before in
    (rest_after d, saturate_clash (stops d) (words d) _ (set_now d) (set_after d) (head d).loop.invariant.1 (did d Contradictory c.in-Contradictory.is))

enum-told-3 : tie.Need-enum_told-in-Grown invariant-loop decreases-loop
enum-told-3 c = c.in-Grown-1.keys3

loop-less : tie.Need-loop-smaller invariant-loop decreases-loop
loop-less c = (did (walk_of c.before) Grown c.in-Grown.is).1

loop-again : tie.Need-loop-preserved invariant-loop decreases-loop
loop-again c =
    let d = walk_of c.before in
    (rest_after d, reached_on _ _ _ _ _ (head d).loop.invariant.1 (did d Grown c.in-Grown.is).0)

pub saturate_spec : {M : Type 1} → statement M
saturate_spec =
    tie.close
    (tie.spec
    invariant-loop
    decreases-loop
    loop-holds
    walk-requires
    enum_told
    same_length
    returns
    enum-told-2
    same-length-2
    returns-2
    enum-told-3
    loop-less
    loop-again)
