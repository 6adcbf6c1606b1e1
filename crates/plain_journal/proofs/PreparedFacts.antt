-- What is made before a render is noted.
use Rattle.std.proofs.Common.{ℕ, ◌≡◌, List, [], ◌∷◌, None, Result, Ok, Err, refl, sym, ap, subst, map}
use Rattle.std.specs.Prelude.{IfOk}
use Rattle.fx_math.specs.declared.scene.Scene.{Scene}
use Rattle.kind_tables.specs.Scenes.{scene}
use Rattle.kind_tables.specs.Walks.{Visit, visited}
use Rattle.picture_model.specs.Limits.{IsSceneWithin}
use Rattle.scene_read.specs.SceneReads.{IsReadScene, size_of_frame}
use Rattle.scene_read.specs.Starts.{starts_of}
use Rattle.seq_model.specs.Legal.{Legal}
use Rattle.seq_model.specs.Refusals.{refusal}
use Rattle.seq_model.specs.State.{scene_objects}
use Rattle.seq_model.specs.Steps.{Past, after}
use Rattle.seq_model.specs.declared.calls.Call.TheVariants.{RenderFrame}
use Rattle.past_laws.proofs.GrantedScenes.{granted_scene_within}

-- the handles of a walk, by where its visits stand
pub handles_are_visited : (visits : List Visit) → map (λ v. v.1) (starts_of visits) ≡ visited visits
handles_are_visited [] = refl
handles_are_visited (v ∷ visits) = ap (λ rest. v.handle ∷ rest) (handles_are_visited visits)

-- the scene of a render that no refusal applies to
pub past_scene_within : (past : Past) (f : ℕ) → past ≡ after past.seen → Legal past.seen → refusal past (RenderFrame f) ≡ None →
    IsReadScene (size_of_frame (scene_objects past.state) f) (scene (scene_objects past.state) f) → IsSceneWithin (scene (scene_objects past.state) f)
past_scene_within past f led legal none read =
    subst (λ (p : Past). IsSceneWithin (scene (scene_objects p.state) f)) (sym led)
    (granted_scene_within past.seen f legal (subst (λ p. refusal p (RenderFrame f) ≡ None) led none)
    (subst (λ (p : Past). IsReadScene (size_of_frame (scene_objects p.state) f) (scene (scene_objects p.state) f)) led read))

pub made_within : {E : Type 0} (past : Past) (f : ℕ) (made : Result Scene E) → past ≡ after past.seen → Legal past.seen → refusal past (RenderFrame f) ≡ None →
    IfOk made (λ s. IsReadScene (size_of_frame (scene_objects past.state) f) s) → IfOk made (λ s. s ≡ scene (scene_objects past.state) f) → IfOk made IsSceneWithin
made_within past f (Ok s) led legal none read is =
    subst IsSceneWithin (sym is) (past_scene_within past f led legal none (subst (IsReadScene (size_of_frame (scene_objects past.state) f)) is read))
made_within past f (Err e) led legal none read is = tt
