-- What a render that was granted walks is complete, within the limits, in range, and not mapped.
use Rattle.std.proofs.Common.{ℕ, ◌≡◌, ◌≤◌, ◌∙◌, Bool, true, false, List, [], ◌∷◌, ◌++◌, All, Option, Some, None, refl, sym, ap, length}
use Rattle.std.specs.Prelude.{cond, nat_lt}
use Rattle.std.specs.List.{find}
use Rattle.std.specs.Option.{option_map, option_or}
use Rattle.std.proofs.lemmas.Bool.{ltb-false}
use Rattle.std.proofs.lemmas.List.Elements.{All-nil, All-cons}
use Rattle.dev_types.specs.declared.refusals.Refused.TheVariants.{ArrayMapped, Incomplete, OutOfRange, TooMany}
use Rattle.kind_tables.specs.Ranges.{broken_parameter}
use Rattle.kind_tables.specs.SceneObjects.{SceneObjects}
use Rattle.kind_tables.specs.Scenes.{lights_of, primitives_of}
use Rattle.kind_tables.specs.WalkRefusals.{fault_of, first_answer, first_incomplete, first_limit, first_mapped, first_out_of_range, missing_parameter, surface_count, too_many}
use Rattle.kind_tables.specs.Walks.{Visit, walk}
use Rattle.seq_model.proofs.Granted.{AllNone, all_none, given}
use Rattle.seq_model.proofs.Prefixes.{in_place}
use Rattle.seq_model.specs.Histories.{History}
use Rattle.seq_model.specs.Legal.{Legal}
use Rattle.seq_model.specs.Refusals.{refusal, refusals_of, refusals_of_render}
use Rattle.seq_model.specs.State.{scene_objects}
use Rattle.seq_model.specs.Steps.{Past, after}
use Rattle.seq_model.specs.declared.calls.Call.TheVariants.{RenderFrame}
use Rattle.seq_model.specs.declared.calls.Entry.TheVariants.{Called}
use Rattle.seq_model.specs.declared.calls.Reply.TheVariants as reply

-- where the first of two answers is none, both are
both_none : {X : Type 0} (x y : Option X) → option_or x y ≡ None → (x ≡ None) × (y ≡ None)
both_none None y none = (refl, none)
both_none (Some x) y none = absurd cc

-- where no item answers
no_answers : {X Y : Type 0} (f : X → Option Y) (xs : List X) → first_answer f xs ≡ None → All (λ x. f x ≡ None) xs
no_answers f [] none = All-nil (λ x. f x ≡ None)
no_answers f (x ∷ xs) none =
    let both : (f x ≡ None) × (first_answer f xs ≡ None) = both_none (f x) (first_answer f xs) none in
    All-cons (λ x. f x ≡ None) x xs both.0 (no_answers f xs both.1)

none_of_map : {X Y : Type 0} (f : X → Y) (x : Option X) → option_map f x ≡ None → x ≡ None
none_of_map f None none = refl
none_of_map f (Some x) none = absurd cc

none_found : (visits : List Visit) → find (λ v. v.object.mapped) visits ≡ None → All (λ v. v.object.mapped ≡ false) visits
none_found [] none = All-nil (λ (v : Visit). v.object.mapped ≡ false)
none_found (v ∷ visits) none = by v.object.mapped refl (λ later. none_found visits later)
  where
    by : (t : Bool) → v.object.mapped ≡ t → (find (λ v. v.object.mapped) visits ≡ None → All (λ (v : Visit). v.object.mapped ≡ false) visits) → All (λ (v : Visit). v.object.mapped ≡ false) (v ∷ visits)
    by true is rest = let some : Some v ≡ None = sym (ap (λ t. cond t (Some v) (find (λ v. v.object.mapped) visits)) is) ∙ none in absurd cc
    by false is rest =
        All-cons (λ (v : Visit). v.object.mapped ≡ false) v visits is
        (rest (sym (ap (λ t. cond t (Some v) (find (λ v. v.object.mapped) visits)) is) ∙ none))

few_enough : (limit count : ℕ) → too_many limit count ≡ None → count ≤ limit
few_enough limit count none = by (nat_lt limit count) refl none
  where
    by : (t : Bool) → nat_lt limit count ≡ t → cond t (Some (TooMany limit)) None ≡ None → count ≤ limit
    by true is none = absurd cc
    by false is none = ltb-false limit count is

-- the walk of a render
render_facts : (past : Past) (h : ℕ) → refusal past (RenderFrame h) ≡ None → AllNone (refusals_of_render past h)
unfolding refusal refusals_of
render_facts past h none = all_none (refusals_of_render past h) none

abbrev walk_of : History → ℕ → List Visit
walk_of history h = walk (scene_objects (after history).state) h

facts_of : (history : History) (actor h : ℕ) → Legal (history ++ Called actor (RenderFrame h) reply.Done ∷ []) → AllNone (refusals_of_render (after history) h)
facts_of history actor h legal =
    render_facts (after history) h (given (after history) (RenderFrame h) reply.Done (in_place history (Called actor (RenderFrame h) reply.Done) [] legal).0 (λ refused is. cc)).0

pub no_visit_is_mapped : (history : History) (actor h : ℕ) → Legal (history ++ Called actor (RenderFrame h) reply.Done ∷ []) → All (λ v. v.object.mapped ≡ false) (walk (scene_objects (after history).state) h)
unfolding first_mapped
no_visit_is_mapped history actor h legal = none_found (walk_of history h) (none_of_map (λ v. ArrayMapped v.handle) (find (λ v. v.object.mapped) (walk_of history h)) (facts_of history actor h legal).1.1.1.0)

faults : (history : History) (actor h : ℕ) → Legal (history ++ Called actor (RenderFrame h) reply.Done ∷ []) →
    (first_incomplete (walk_of history h) ≡ None) × ((first_limit (scene_objects (after history).state) (walk_of history h) ≡ None) × (first_out_of_range (scene_objects (after history).state) (walk_of history h) ≡ None))
unfolding fault_of
faults history actor h legal =
    let first : (first_incomplete (walk_of history h) ≡ None) × (option_or (first_limit (scene_objects (after history).state) (walk_of history h)) (first_out_of_range (scene_objects (after history).state) (walk_of history h)) ≡ None) =
    both_none (first_incomplete (walk_of history h)) (option_or (first_limit (scene_objects (after history).state) (walk_of history h)) (first_out_of_range (scene_objects (after history).state) (walk_of history h))) (facts_of history actor h legal).1.1.1.1.1.1.0 in
    (first.0, both_none (first_limit (scene_objects (after history).state) (walk_of history h)) (first_out_of_range (scene_objects (after history).state) (walk_of history h)) first.1)

each_none : {X Y : Type 0} (f : Visit → X → Y) (g : Visit → Option X) (visits : List Visit) → first_answer (λ v. option_map (f v) (g v)) visits ≡ None → All (λ v. g v ≡ None) visits
each_none f g [] none = All-nil (λ (v : Visit). g v ≡ None)
each_none f g (v ∷ visits) none =
    let both : (option_map (f v) (g v) ≡ None) × (first_answer (λ v. option_map (f v) (g v)) visits ≡ None) = both_none (option_map (f v) (g v)) (first_answer (λ v. option_map (f v) (g v)) visits) none in
    All-cons (λ (v : Visit). g v ≡ None) v visits (none_of_map (f v) (g v) both.0) (each_none f g visits both.1)

pub every_visit_is_complete : (history : History) (actor h : ℕ) → Legal (history ++ Called actor (RenderFrame h) reply.Done ∷ []) → All (λ v. missing_parameter v.object ≡ None) (walk (scene_objects (after history).state) h)
unfolding first_incomplete
every_visit_is_complete history actor h legal = each_none (λ v. Incomplete v.handle) (λ v. missing_parameter v.object) (walk_of history h) (faults history actor h legal).0

pub every_visit_is_in_range : (history : History) (actor h : ℕ) → Legal (history ++ Called actor (RenderFrame h) reply.Done ∷ []) →
    All (λ v. broken_parameter (scene_objects (after history).state) v ≡ None) (walk (scene_objects (after history).state) h)
unfolding first_out_of_range
every_visit_is_in_range history actor h legal =
    each_none (λ v. OutOfRange v.handle) (broken_parameter (scene_objects (after history).state)) (walk_of history h) (faults history actor h legal).1.1

limits_of : (objects : SceneObjects) (visits : List Visit) → first_limit objects visits ≡ None →
    (surface_count visits ≤ 65536) × (length (lights_of visits) ≤ 256) × (length (primitives_of objects visits) ≤ 1048576)
unfolding first_limit
limits_of objects visits none =
    let first : (too_many 65536 (surface_count visits) ≡ None) × (option_or (too_many 256 (length (lights_of visits))) (too_many 1048576 (length (primitives_of objects visits))) ≡ None) =
    both_none (too_many 65536 (surface_count visits)) (option_or (too_many 256 (length (lights_of visits))) (too_many 1048576 (length (primitives_of objects visits)))) none in
    let second : (too_many 256 (length (lights_of visits)) ≡ None) × (too_many 1048576 (length (primitives_of objects visits)) ≡ None) =
    both_none (too_many 256 (length (lights_of visits))) (too_many 1048576 (length (primitives_of objects visits))) first.1 in
    (few_enough 65536 (surface_count visits) first.0, few_enough 256 (length (lights_of visits)) second.0, few_enough 1048576 (length (primitives_of objects visits)) second.1)

pub walks_keep_the_limits : (history : History) (actor h : ℕ) → Legal (history ++ Called actor (RenderFrame h) reply.Done ∷ []) →
    (surface_count (walk (scene_objects (after history).state) h) ≤ 65536)
    × (length (lights_of (walk (scene_objects (after history).state) h)) ≤ 256)
    × (length (primitives_of (scene_objects (after history).state) (walk (scene_objects (after history).state) h)) ≤ 1048576)
walks_keep_the_limits history actor h legal = limits_of (scene_objects (after history).state) (walk_of history h) (faults history actor h legal).1.0
