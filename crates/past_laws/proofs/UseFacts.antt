-- Entries that say nothing of worlds.
use Rattle.std.proofs.Common.{◌≡◌, ℕ, Bool, true, false, List, [], ◌∷◌, ◌++◌, None, refl}
use Rattle.std.specs.Option.{option_and_then}
use Rattle.seq_model.specs.Builds.{is_touching}
use Rattle.seq_model.specs.Histories.{History, rendered}
use Rattle.seq_model.specs.Steps.{after}
use Rattle.seq_model.specs.declared.calls.Call.{Call}
use Rattle.seq_model.specs.declared.calls.Call.TheVariants.{Commit, Retain, RenderFrame, UnmapArray}
use Rattle.seq_model.specs.declared.calls.Entry.TheVariants.{Called}
use Rattle.seq_model.specs.declared.calls.Reply.{Reply}
use Rattle.seq_model.specs.declared.calls.Reply.TheVariants as reply
use Rattle.past_laws.proofs.WorldFacts.{knows_still}
use Rattle.past_laws.specs.Worlds.{KnowsWorlds, Worlds, render_of, world_of}

-- a render of a frame without a world
pub unworlded : (history : History) (actor f : ℕ) (worlds : Worlds) → world_of (after history).state f ≡ None → KnowsWorlds history worlds → KnowsWorlds (history ++ render_of actor f ∷ []) worlds
unworlded history actor f worlds none knows = knows_still history (render_of actor f) worlds none (λ objects. refl) knows

-- the call with its reply says something of worlds
abbrev pub speaks : Call → Reply → Bool
speaks (RenderFrame f) reply.Done = true
speaks (Commit h) reply.Done = true
speaks (UnmapArray h number bytes) reply.Done = true
speaks call r = false

pub silent : (history : History) (actor : ℕ) (call : Call) (r : Reply) (worlds : Worlds) → speaks call r ≡ false → KnowsWorlds history worlds → KnowsWorlds (history ++ Called actor call r ∷ []) worlds
silent history actor call r worlds quiet knows = knows_still history (Called actor call r) worlds (none call r quiet) (λ objects. still call r quiet objects) knows
  where
    none : (call : Call) (r : Reply) → speaks call r ≡ false → option_and_then (world_of (after history).state) (rendered (Called actor call r)) ≡ None
    none (RenderFrame f) reply.Done quiet = absurd cc
    none (RenderFrame f) _ quiet = refl
    none (Retain h) r quiet = refl
    none _ r quiet = refl

    still : (call : Call) (r : Reply) → speaks call r ≡ false → (objects : List ℕ) → is_touching objects (Called actor call r) ≡ false
    still (Commit h) reply.Done quiet objects = absurd cc
    still (Commit h) _ quiet objects = refl
    still (UnmapArray h number bytes) reply.Done quiet objects = absurd cc
    still (UnmapArray h number bytes) _ quiet objects = refl
    still (Retain h) r quiet objects = refl
    still _ r quiet objects = refl

-- a reply that is not done, and a call that is none of these
pub not_done : (call : Call) (r : Reply) → (r ≡ reply.Done → ⊥) → speaks call r ≡ false
not_done (RenderFrame f) reply.Done other = absurd (other refl)
not_done (RenderFrame f) _ other = refl
not_done (Commit h) reply.Done other = absurd (other refl)
not_done (Commit h) _ other = refl
not_done (UnmapArray h number bytes) reply.Done other = absurd (other refl)
not_done (UnmapArray h number bytes) _ other = refl
not_done (Retain h) r other = refl
not_done _ r other = refl

pub none_of_these : (call : Call) → ((f : ℕ) → call ≡ RenderFrame f → ⊥) → ((h : ℕ) → call ≡ Commit h → ⊥) → ((h number : ℕ) (bytes : List ℕ) → call ≡ UnmapArray h number bytes → ⊥) → speaks call reply.Done ≡ false
none_of_these (RenderFrame f) no_render no_commit no_unmap = absurd (no_render f refl)
none_of_these (Commit h) no_render no_commit no_unmap = absurd (no_commit h refl)
none_of_these (UnmapArray h number bytes) no_render no_commit no_unmap = absurd (no_unmap h number bytes refl)
none_of_these (Retain h) no_render no_commit no_unmap = refl
none_of_these _ no_render no_commit no_unmap = refl
