use Rattle.std.proofs.Common.{◌≡◌, ◌++◌, ℕ, List, sym, ap, ◌∙◌, subst, length}
use Rattle.turn_lock.specs.Histories.{AreRising, AreApart, Extends, longer, merged, shorter}
use Rattle.turn_lock.specs.Views.{view_in, joined}
use Rattle.turn_lock.specs.Passes.{mine, seen}
use Rattle.turn_lock.proofs.PlaceLaws.{apart-merged, both_begin}
use Rattle.turn_lock.proofs.turn.Turn.join.Goals as goal

pub returns-clause-apart : goal.returns-clause-apart
returns-clause-apart g c =
    let v = c.into_seat-seat.result.me.0 in
    let w = c.into_seat.result.me.0 in
    let one : view_in c.args.pass.now.badge.views ≡ v = ap (λ b. view_in b.views) (sym c.replace.ensures.value) ∙ ap view_in c.into_seat-seat.ensures.2 in
    let other : view_in c.args.other.badge.views ≡ w = ap view_in c.into_seat.ensures.2 in
    let now = ap (λ me. me.0) c.merge.ensures.view in
    let rising : AreRising 0 (length (joined v w).seen) (merged v.mine w.mine) = subst (λ u. AreRising 0 (length u.seen) u.mine) now c.merge.ensures.rising in
    let apart : AreApart v.mine w.mine = apart-merged 0 (length (joined v w).seen) v.mine w.mine rising in
    subst (λ (xs : List ℕ). AreApart xs (mine c.args.other)) (ap (λ u. u.mine) (sym one)) (subst (λ (ys : List ℕ). AreApart v.mine ys) (ap (λ u. u.mine) (sym other)) apart)

pub returns-clause-later : goal.returns-clause-later
returns-clause-later g c =
    let v = c.into_seat-seat.result.me.0 in
    let w = c.into_seat.result.me.0 in
    let one : view_in c.args.pass.now.badge.views ≡ v = ap (λ b. view_in b.views) (sym c.replace.ensures.value) ∙ ap view_in c.into_seat-seat.ensures.2 in
    let other : view_in c.args.other.badge.views ≡ w = ap view_in c.into_seat.ensures.2 in
    let now = ap (λ me. me.0) c.merge.ensures.view in
    let older : Extends (shorter v.seen w.seen) (longer v.seen w.seen) = subst (λ u. Extends u.older u.seen) now c.merge.ensures.older in
    let both = both_begin v.seen w.seen older in
    let seen_is : (view_in c.into_badge.result.views).seen ≡ longer v.seen w.seen = ap (λ vs. (view_in vs).seen) c.into_badge.ensures.2 ∙ ap (λ u. u.seen) now in
    ((both.0.0, seen_is ∙ both.0.1 ∙ ap (λ u. u.seen ++ both.0.0) (sym one)), (both.1.0, seen_is ∙ both.1.1 ∙ ap (λ u. u.seen ++ both.1.0) (sym other)))
