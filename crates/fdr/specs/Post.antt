-- What the functions below the calls ask and answer. Assumes nothing.
use Rattle.std.specs.Prelude.{ℕ, ◌+◌, ◌≤◌, ◌<◌, List, true, false, ◌≡◌, ltb, length, get_or}
use Rattle.definitions.specs.Lists.{all}
use Rattle.definitions.specs.Literal.{most_atoms}
use Rattle.definitions.specs.Groups.{Domain}
use Rattle.definitions.specs.Fdr.{FdrRow, FdrTask, no_domain, fdr_all_true}
use Rattle.definitions.specs.FdrImage.{read_fdr, fdr_operator_right}
use Rattle.definitions.specs.FdrStep.{is_fdr_state, fdr_step}
use Rattle.answer.specs.Reader.{Reader}
use Rattle.fdr_image.specs.Reads.{fdr_of, ReadsFdr}
use Rattle.fdr_image.specs.Walk.{block_parses, operator_in}
use Rattle.fdr.specs.Change.{no_changes, named}

-- re-encoded images: question 17, their states (18) and steps (19 to 22)
abbrev pub fdr_reader : Reader FdrTask
fdr_reader =
    record {
      read = read_fdr;
      is_state = is_fdr_state;
      size = λ t. length t.domains;
      initial = λ t. t.initial;
      step = fdr_step;
      is_met = λ t s. fdr_all_true s t.goal;
    }

-- an image that reads as a re-encoded task, and a state of its length
pub record Standing (w s : List ℕ) : Type 0 where
  pub reads : ReadsFdr w
  pub size : length s ≡ length (fdr_of w).domains

-- besides, the block of an operator with right rows, and changes that note nothing
pub record Applying (w b s m : List ℕ) : Type 0 where
  pub standing : Standing w s
  pub parses : block_parses b ≡ true
  pub right : fdr_operator_right (fdr_of w).domains (operator_in b) ≡ true
  pub blank : m ≡ no_changes

-- a block that parses, whose rows have variables below `most`
pub record LowBlock (most : ℕ) (b : List ℕ) : Type 0 where
  pub parses : block_parses b ≡ true
  pub low : all (λ r. ltb r.variable most) (operator_in b).rows ≡ true

-- nothing is noted but for variable v
pub record NotedAt (v : ℕ) (m m' : List ℕ) : Type 0 where
  pub apart : (w : ℕ) → (w ≡ v → ⊥) → get_or m' w 0 ≡ get_or m w 0

-- nothing is noted but for the variables that the rows name
pub record NotedFor (rs : List FdrRow) (m m' : List ℕ) : Type 0 where
  pub apart : (w : ℕ) → named rs w ≡ false → get_or m' w 0 ≡ get_or m w 0

-- what is noted for variable v lies in its domain
pub record Changed (D : List Domain) (v change : ℕ) : Type 0 where
  pub low : v < length D
  pub size : 1 ≤ (get_or D v no_domain).values
  pub inside : change < (get_or D v no_domain).values + 2

-- what is noted for each variable lies in its domain
pub record Changes (D : List Domain) (m : List ℕ) : Type 0 where
  pub few : length D ≤ most_atoms
  pub long : length D ≤ length m
  pub sizes : (v : ℕ) → v < length D → 1 ≤ (get_or D v no_domain).values
  pub inside : (v : ℕ) → v < length D → get_or m v 0 < (get_or D v no_domain).values + 2

-- what `write` asks: besides, a state of the length of the domains
pub record Writes (D : List Domain) (b m s : List ℕ) : Type 0 where
  pub block : LowBlock (length D) b
  pub changes : Changes D m
  pub size : length s ≡ length D
