-- Laws of shares.
use Rattle.std.proofs.Common.{◌≡◌, ℕ, zero, suc, ◌+◌, ◌-◌, ◌*◌, ◌^◌, ◌<◌, ◌≤◌, max, refl, sym, ap, ◌∙◌, arith, mul_assoc}
use Rattle.std.proofs.lemmas.Nat.{pow-add, pow_pos}
use Rattle.std.proofs.Math.Nat.{pow-succ'}
use Rattle.turn_lock.specs.declared.view.Share.{Share}
use Rattle.turn_lock.specs.Views.{half, parts_at, both_shares, IsWhole}

-- the parts at one scale, made finer to another
rescaled : (parts low mid high : ℕ) → low ≤ mid → mid ≤ high → parts * 2 ^ (mid - low) * 2 ^ (high - mid) ≡ parts * 2 ^ (high - low)
rescaled parts low mid high a b =
    let e : (mid - low) + (high - mid) ≡ high - low = omega arith in
    mul_assoc parts (2 ^ (mid - low)) (2 ^ (high - mid)) ∙ ap (λ k. parts * k) (sym (pow-add 2 (mid - low) (high - mid)) ∙ ap (λ k. 2 ^ k) e)

-- in a turn that is cut twice as fine, a share has twice the parts
pub finer : (scale : ℕ) (s : Share) → s.halvings ≤ scale → parts_at (scale + 1) s ≡ 2 * parts_at scale s
finer scale s le =
    let e : scale + 1 - s.halvings ≡ suc (scale - s.halvings) = omega arith in
    rw (e, pow-succ' 2 (scale - s.halvings)) (omega arith)

pub parts_at-half : (scale : ℕ) (s : Share) → parts_at (scale + 1) (half s) ≡ parts_at scale s
parts_at-half scale s =
    let e : scale + 1 - (s.halvings + 1) ≡ scale - s.halvings = omega arith in
    ap (λ k. s.parts * 2 ^ k) e

pub parts_at-both : (scale : ℕ) (s t : Share) → s.halvings ≤ scale → t.halvings ≤ scale → parts_at scale (both_shares s t) ≡ parts_at scale s + parts_at scale t
parts_at-both scale s t a b =
    let m : ℕ = max s.halvings t.halvings in
    let one = rescaled s.parts s.halvings m scale (omega arith) (omega arith) in
    let other = rescaled t.parts t.halvings m scale (omega arith) (omega arith) in
    omega arith

pub parts_at-whole : (scale : ℕ) (s : Share) → s.halvings ≤ scale → IsWhole s → parts_at scale s ≡ 2 ^ scale
parts_at-whole scale s le whole =
    let e : s.halvings + (scale - s.halvings) ≡ scale = omega arith in
    ap (λ k. k * 2 ^ (scale - s.halvings)) whole ∙ sym (pow-add 2 s.halvings (scale - s.halvings)) ∙ ap (λ k. 2 ^ k) e

no_product : (a b : ℕ) → 0 < b → a * b ≡ 0 → a ≡ 0
no_product zero b pos none = refl
no_product (suc a) b pos none = absurd (omega arith)

pub parts_at-none : (scale : ℕ) (s : Share) → parts_at scale s ≡ 0 → s.parts ≡ 0
parts_at-none scale s none = no_product s.parts (2 ^ (scale - s.halvings)) (pow_pos (scale - s.halvings)) none
