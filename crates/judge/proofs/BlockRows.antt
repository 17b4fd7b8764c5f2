-- The rows of an operator that are left to a walk: their literals are right. Assumes nothing.
use mathlib.Core.Path.{◌≡◌, refl, sym, subst}
use mathlib.Core.Bool.{true}
use mathlib.Core.List.{List, ◌∷◌, Memᴰ}
use Prim.Native.Nat.{ℕ, ◌*◌, ◌<◌}
use Rattle.definitions.specs.Lists.{all}
use Rattle.definitions.specs.Literal.{all_below}
use Rattle.definitions.specs.Image.{Row, Operator, row_right, operator_right}
use Rattle.definitions.proofs.ReadLaws.{row_effect, row_conditions, rows_right_lem}
use Rattle.task.proofs.BlockSizes.{first_right, others_right}

pub record Left (atoms : ℕ) (o : Operator) (rs : List Row) : Type 0 where
  pub right : all (row_right atoms) rs ≡ true
  pub among : (r : Row) → Memᴰ r rs → Memᴰ r o.rows

pub left_start : (atoms : ℕ) (o : Operator) (rs : List Row) → operator_right atoms o ≡ true → rs ≡ o.rows → Left atoms o rs
left_start atoms o rs right e =
    record {
      right = rw e (rows_right_lem atoms o right);
      among = λ r m. subst (λ (rs : List Row). Memᴰ r rs) e m;
    }

-- the row that comes next is r
module _ (atoms : ℕ) (o : Operator) (xs rs : List Row) (r : Row) (e : xs ≡ r ∷ rs) (left : Left atoms o xs) where
  next_right : row_right atoms r ≡ true
  next_right = first_right atoms xs r rs e left.right

  pub left_next : Left atoms o rs
  left_next =
      record {
        right = others_right atoms xs r rs e left.right;
        among = λ q m. left.among q (subst (λ (ys : List Row). Memᴰ q ys) (sym e) (Memᴰ.tail m));
      }

  -- it is one of the operator's
  pub row_among : Memᴰ r o.rows
  row_among = left.among r (subst (λ (ys : List Row). Memᴰ r ys) (sym e) (Memᴰ.head refl))

  pub effect_low : r.effect < 2 * atoms
  effect_low = row_effect atoms r next_right

  pub conditions_low : all_below (2 * atoms) r.conditions ≡ true
  conditions_low = row_conditions atoms r next_right
