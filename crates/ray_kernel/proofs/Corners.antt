-- A point of a triangle whose corners lie in a box lies in the box.
use Rattle.std.proofs.Common.{◌≡◌, ℕ, ◌+◌, ℤ, pos, ◌+ℤ◌, ◌-ℤ◌, ◌*ℤ◌, ◌≤ℤ◌, arith}
use Rattle.std.proofs.lemmas.Int.{ints}
use Rattle.fx_math.proofs.Rings.{Is-add, Is-mul, Is-natural, Is-parts, Is-sub, same_by}
use Rattle.box_tests.proofs.Nesting.{times_le}
use Rattle.box_tests.specs.Boxes.{IsBetween}

pub less_times : (a b : ℤ) (m : ℕ) → (a -ℤ b) *ℤ pos m ≡ a *ℤ pos m -ℤ b *ℤ pos m
less_times a b m =
    same_by _ _ _ _ _ _
    (Is-mul (a -ℤ b) (pos m) _ _ _ _ (Is-sub a b _ _ _ _ (Is-parts a) (Is-parts b)) (Is-natural m))
    (Is-sub _ _ _ _ _ _ (Is-mul a (pos m) _ _ _ _ (Is-parts a) (Is-natural m)) (Is-mul b (pos m) _ _ _ _ (Is-parts b) (Is-natural m)))
    (omega arith)

times_sum : (a : ℤ) (r p q : ℕ) → a *ℤ pos (r + p + q) ≡ a *ℤ pos r +ℤ a *ℤ pos p +ℤ a *ℤ pos q
times_sum a r p q =
    same_by _ _ _ _ _ _
    (Is-mul a (pos (r + p + q)) _ _ _ _ (Is-parts a) (Is-natural (r + p + q)))
    (Is-add _ _ _ _ _ _ (Is-add _ _ _ _ _ _ (Is-mul a (pos r) _ _ _ _ (Is-parts a) (Is-natural r)) (Is-mul a (pos p) _ _ _ _ (Is-parts a) (Is-natural p))) (Is-mul a (pos q) _ _ _ _ (Is-parts a) (Is-natural q)))
    (omega arith)

pub swap : (d : ℤ) (n : ℕ) → pos n *ℤ d ≡ d *ℤ pos n
swap d n = same_by _ _ _ _ _ _ (Is-mul (pos n) d _ _ _ _ (Is-natural n) (Is-parts d)) (Is-mul d (pos n) _ _ _ _ (Is-parts d) (Is-natural n)) (omega arith)

-- the ray's point by the weights of the corners
position : (a b c o d : ℤ) (n r p q : ℕ) → (o -ℤ a) *ℤ pos (r + p + q) +ℤ d *ℤ pos n ≡ (b -ℤ a) *ℤ pos p +ℤ (c -ℤ a) *ℤ pos q →
    o *ℤ pos (r + p + q) +ℤ pos n *ℤ d ≡ a *ℤ pos r +ℤ b *ℤ pos p +ℤ c *ℤ pos q
position a b c o d n r p q h =
    let e = less_times o a (r + p + q) in
    let f = less_times b a p in
    let g = less_times c a q in
    let s = times_sum a r p q in
    let w = swap d n in
    omega (arith, ints, h)

pub between_corners : (a b c o d low high : ℤ) (n r p q : ℕ) → (o -ℤ a) *ℤ pos (r + p + q) +ℤ d *ℤ pos n ≡ (b -ℤ a) *ℤ pos p +ℤ (c -ℤ a) *ℤ pos q →
    low ≤ℤ a → low ≤ℤ b → low ≤ℤ c → a ≤ℤ high → b ≤ℤ high → c ≤ℤ high → IsBetween low high o d n (r + p + q)
between_corners a b c o d low high n r p q h la lb lc ha hb hc =
    let at = position a b c o d n r p q h in
    let least = times_sum low r p q in
    let most = times_sum high r p q in
    let l1 = times_le low a r la in
    let l2 = times_le low b p lb in
    let l3 = times_le low c q lc in
    let h1 = times_le a high r ha in
    let h2 = times_le b high p hb in
    let h3 = times_le c high q hc in
    record { from = omega (arith, ints); to = omega (arith, ints) }
