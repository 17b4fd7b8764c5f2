-- The text of a finding, by its parts. Assumes nothing.
use mathlib.Core.Path.{◌≡◌}
use mathlib.Core.List.{List, ◌++◌, append_assoc}
use Prim.Native.Nat.{ℕ}
use Rattle.definitions.specs.Groups.{groups}
use Rattle.definitions.specs.Card.{found_text}
use Rattle.cover.specs.Cover.{Covered}
use Rattle.card.specs.Text.{counts_line, groups_line, set_text, cover_text, finding_of}
use Rattle.card.proofs.GroupText.{group_lines}

pub found_parts :
    (N : ℕ) (C : List (List ℕ)) (ps ss ns : List ℕ) (n r : ℕ) → Covered N C ps ss ns n
    → found_text N (finding_of C r) ≡ set_text C r ++ cover_text ps ns n
unfolding found_text set_text cover_text counts_line groups_line groups
found_parts N C ps ss ns n r c = rw (← group_lines N C ps ss ns n c, c.grouped.count) (simp append_assoc)
