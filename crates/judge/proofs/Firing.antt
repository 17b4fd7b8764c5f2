-- A row whose conditions lie in a closure that is not contradictory can fire: its conditions add nothing to the closure. Assumes nothing.
use mathlib.Core.Bool.{true, false, not}
use mathlib.Core.Logic.{◌⊎◌, inl, inr}
use mathlib.Core.Path.{◌≡◌, sym, ◌∙◌, ap}
use mathlib.Core.List.Memᴰ
use mathlib.Core.List.{List, ◌++◌, Memᴰ}
use Prim.Native.Nat.{ℕ, ◌*◌, ◌<◌}
use Rattle.definitions.specs.Closure.{has, closure, contradictory}
use Rattle.definitions.specs.Kept.{all_in}
use Rattle.definitions.proofs.ListLaws.{all_at, member_of, member_in}
use Rattle.definitions.proofs.ClosureLeast.{closure_holds}
use Rattle.propagation.proofs.ClosureLaws.{closure_lowest, closure_ext, closure_under, closure_mono}
use Rattle.judge.specs.Judging.{can_fire}

module _
    (N : ℕ) (C : List (List ℕ)) (within : (f : List ℕ) → Memᴰ f C → (l : ℕ) → Memᴰ l f → l < 2 * N) (ls cs : List ℕ)
    (held : all_in (closure N C ls) cs ≡ true) where
  pub closure_held : closure N C (ls ++ cs) ≡ closure N C ls
  unfolding all_in
  closure_held =
      closure_ext N C (ls ++ cs) ls
      (closure_lowest N C (ls ++ cs) K (λ l k m. start l k (Memᴰ.append_cases ls (member_of l (ls ++ cs) m))) (closure_under N C within ls))
      (closure_mono N C within ls (ls ++ cs) (λ l k m. member_in (Memᴰ.append_left cs (member_of l ls m))))
    where
      K : List ℕ
      K = closure N C ls

      start : (l : ℕ) → l < 2 * N → Memᴰ l ls ⊎ Memᴰ l cs → has K l ≡ true
      start l k (inl m) = closure_holds N C ls l k (member_in m)
      start l k (inr m) = all_at (has K) held m

  pub held_fires : contradictory N (closure N C ls) ≡ false → true ≡ can_fire N C ls cs
  unfolding can_fire
  held_fires h = sym (ap (λ K. not (contradictory N K)) closure_held ∙ ap not h)

-- by the answer for the closure with the row's conditions
module _ (N : ℕ) (C : List (List ℕ)) (ls cs : List ℕ) where
  pub fires_consistent : contradictory N (closure N C (ls ++ cs)) ≡ false → true ≡ can_fire N C ls cs
  unfolding can_fire
  fires_consistent h = sym (ap not h)

  pub fires_not : contradictory N (closure N C (ls ++ cs)) ≡ true → false ≡ can_fire N C ls cs
  unfolding can_fire
  fires_not h = sym (ap not h)
