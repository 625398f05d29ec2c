-- The corners in the first numbers of lent memory. Assumes nothing.
use Rattle.std.proofs.Common.{◌≡◌, ℕ, zero, suc, ◌+◌, ◌*◌, ◌/◌, ◌<◌, ◌≤◌, List, length, take, refl, arith}
use Rattle.std.specs.Prelude.{ℤ, pos}
use Rattle.std.proofs.Math.ListN.{length-take}
use Rattle.std.proofs.lemmas.List.{get_or-take}
use Rattle.laws.specs.Tab.{tab}
use Rattle.plane.specs.Corners.{corner_at, corners_in}

-- lists from two rules that agree
tab-same : {A : Type 0} (f g : ℕ → A) (i n : ℕ) → ((k : ℕ) → k < i + n → f k ≡ g k) → tab f i n ≡ tab g i n
tab-same f g i zero h = refl
tab-same f g i (suc n) h = cc (h i (omega arith), tab-same f g (suc i) n (λ k l. h k (omega arith)))

corner_at-take : (l : List ℤ) (n i : ℕ) → i < n → corner_at (take (2 * n) l) i ≡ corner_at l i
unfolding corner_at
corner_at-take l n i h =
    let across : 2 * i < 2 * n = omega arith in
    let up : 2 * i + 1 < 2 * n = omega arith in
    cc (get_or-take (2 * n) l (2 * i) (pos 0) across, get_or-take (2 * n) l (2 * i + 1) (pos 0) up)

-- the corners of the first 2 n numbers are the first n corners
pub corners-lent : (l : List ℤ) (n : ℕ) → 2 * n ≤ length l → corners_in (take (2 * n) l) (length (take (2 * n) l) / 2) ≡ corners_in l n
unfolding corners_in
corners-lent l n h =
    let count : length (take (2 * n) l) / 2 ≡ n = simp length-take (omega arith) in
    rw count (tab-same (corner_at (take (2 * n) l)) (corner_at l) 0 n (λ k g. corner_at-take l n k (omega arith)))
