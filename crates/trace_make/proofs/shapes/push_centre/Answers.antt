use Rattle.std.proofs.Common.{rules, FitsSigned, w64}
use Rattle.std.proofs.lemmas.Int.{to_z-of_z}
use Rattle.std.proofs.Common.{◌+◌, [], ◌∷◌, ◌++◌, pos, ◌-ℤ◌, ap, ◌∙◌}
use Rattle.trace_make.specs.Draws.{next_state, number_of, state_after}
use Rattle.trace_make.proofs.shapes.push_centre.Goals as goal

pub returns-clause-centre : goal.returns-clause-centre
unfolding state_after
returns-clause-centre c =
    let s1 = c.across-x.ensures.moved in
    let s2 = c.above-y.ensures.moved ∙ ap next_state s1 in
    let s3 = c.across-z.ensures.moved ∙ ap next_state s2 in
    let fits-x : FitsSigned w64 c.across-x.result = search rules in
    let x = to_z-of_z w64 c.across-x.result fits-x ∙ c.across-x.ensures.place ∙ ap (λ s. pos (number_of 262144 s) -ℤ pos 131072) s1 in
    let fits-y : FitsSigned w64 c.above-y.result = search rules in
    let y = to_z-of_z w64 c.above-y.result fits-y ∙ c.above-y.ensures.place ∙ ap (λ s. pos (16384 + number_of 65536 s)) s2 in
    let fits-z : FitsSigned w64 c.across-z.result = search rules in
    let z = to_z-of_z w64 c.across-z.result fits-z ∙ c.across-z.ensures.place ∙ ap (λ s. pos (number_of 262144 s) -ℤ pos 131072) s3 in
    c.in_ok-push_three.ensures ∙ (λ i. c.args.numbers.now.items ++ x i ∷ y i ∷ z i ∷ [])

pub returns-clause-moved : goal.returns-clause-moved
unfolding state_after
returns-clause-moved c = c.across-z.ensures.moved ∙ ap next_state (c.above-y.ensures.moved ∙ ap next_state c.across-x.ensures.moved)
