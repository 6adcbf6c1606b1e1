-- Shares of a turn that is split and joined again: as much is left as there was.
use Rattle.std.proofs.Common.{◌≡◌, ◌∙◌, ◌+◌, ◌-◌, ◌*◌, ◌/◌, ◌^◌, ◌<◌, ℕ, ap, arith, max, refl, subst, sym}
use Rattle.std.proofs.Math.Nat.{mul-div_cancel}
use Rattle.std.proofs.lemmas.Nat.{pow-add, pow_pos}
use Rattle.replay_core.specs.Runs.{IsAsMuch}
use Rattle.turn_lock.proofs.ShareLaws.{finer, parts_at-both, parts_at-half, parts_at-whole}
use Rattle.turn_lock.specs.Views.{IsWhole, both_shares, half, parts_at}
use Rattle.turn_lock.specs.declared.view.Share.{Share}

pub as_much_same : (s : Share) → IsAsMuch s s
as_much_same s scale a b = refl

-- half of a share, beside as much as the other half
pub as_much_joined : (s t u : Share) → u ≡ half s → IsAsMuch (half s) t → IsAsMuch s (both_shares t u)
as_much_joined s t u is much scale low high =
    let other : u.halvings ≡ s.halvings + 1 = ap (λ (x : Share). x.halvings) is in
    let k : ℕ = scale - 1 in
    let one_more : scale ≡ k + 1 = omega (arith, other, high) in
    let first : parts_at scale t ≡ parts_at scale (half s) = much scale (omega (arith, other, high)) (omega (arith, high)) in
    let second : parts_at scale u ≡ parts_at scale (half s) = ap (parts_at scale) is in
    let halves : parts_at scale (half s) ≡ parts_at k s = ap (λ n. parts_at n (half s)) one_more ∙ parts_at-half k s in
    let twice : parts_at scale s ≡ 2 * parts_at k s = ap (λ n. parts_at n s) one_more ∙ finer k s (omega (arith, other, high)) in
    omega (arith, parts_at-both scale t u (omega (arith, high)) (omega (arith, high)), first, second, halves, twice)

-- both halves came back, one of them as much as it was
pub as_much_by : (s left right t u all : Share) → left ≡ half s → right ≡ half s → IsAsMuch left t → u ≡ right → all ≡ both_shares t u → IsAsMuch s all
as_much_by s left right t u all left_is right_is much other all_is =
    subst (IsAsMuch s) (sym all_is) (as_much_joined s t u (other ∙ right_is) (subst (λ (x : Share). IsAsMuch x t) left_is much))

cancel : (a b c : ℕ) → 0 < c → a * c ≡ b * c → a ≡ b
cancel a b c pos e = sym (mul-div_cancel a pos) ∙ ap (λ n. n / c) e ∙ mul-div_cancel b pos

-- as much as the whole is the whole
pub whole_still : (s t : Share) → IsAsMuch s t → IsWhole s → IsWhole t
whole_still s t much all =
    let m : ℕ = max s.halvings t.halvings in
    let e : t.halvings + (m - t.halvings) ≡ m = omega arith in
    cancel t.parts (2 ^ t.halvings) (2 ^ (m - t.halvings)) (pow_pos (m - t.halvings))
    (much m (omega arith) (omega arith) ∙ parts_at-whole m s (omega arith) all ∙ ap (λ k. 2 ^ k) (sym e) ∙ pow-add 2 t.halvings (m - t.halvings))
