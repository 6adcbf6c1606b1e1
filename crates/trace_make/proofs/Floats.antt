-- No number in a trace that is made is a float, so that its text is the compact one.
use Rattle.std.proofs.Common.{◌≡◌, ℕ, ◌*◌, ℤ, pos, negsuc, ◌||◌, Bool, false, List, [], ◌∷◌, ◌++◌, map, refl, ap, ◌∙◌}
use Rattle.std.specs.List.{flat_map, range_with_len}
use Rattle.std.proofs.lemmas.Bool.{or_parts}
use Rattle.serde_json.specs.Data.{Data}
use Rattle.serde_json.specs.View.{items_of}
use Rattle.serde_json.specs.Written.{has_float, items_have_float, compact_text}
use Rattle.trace_make.specs.Draws.{draw, state_after}
use Rattle.trace_make.specs.Calls.{list, wholes, whole}
use Rattle.trace_make.specs.Scene.{grid_vertices, grid_triangles, grid_calls, centres, sphere_calls, placed_calls, scene_calls}
use Rattle.trace_make.specs.Pictures.{camera_label, frame_label, camera_position, picture_calls, pictures_calls, opening_calls, closing_calls, labelled_calls, caller_calls, release_calls}
use Rattle.trace_make.specs.Made.{trace, phase, phases}

-- whether one of these holds a float
abbrev floats : List Data → Bool
floats ds = items_have_float (items_of ds)

wholes-plain : (zs : List ℤ) → has_float (wholes zs) ≡ false
wholes-plain [] = refl
wholes-plain (pos n ∷ zs) = wholes-plain zs
wholes-plain (negsuc n ∷ zs) = wholes-plain zs

both-plain : (d : Data) (ds : List Data) → has_float d ≡ false → floats ds ≡ false → floats (d ∷ ds) ≡ false
both-plain d ds h hs i = h i || hs i

append-plain : (xs ys : List Data) → floats xs ≡ false → floats ys ≡ false → floats (xs ++ ys) ≡ false
append-plain [] ys h hs = hs
append-plain (x ∷ xs) ys h hs =
    let p = or_parts (has_float x) (floats xs) h in
    both-plain x (xs ++ ys) p.0 (append-plain xs ys p.1 hs)

flat-plain : (f : ℕ → List Data) → ((k : ℕ) → floats (f k) ≡ false) → (ns : List ℕ) → floats (flat_map f ns) ≡ false
flat-plain f h [] = refl
flat-plain f h (n ∷ ns) = append-plain (f n) (flat_map f ns) (h n) (flat-plain f h ns)

lists-plain : (g : ℕ → List Data) → ((k : ℕ) → floats (g k) ≡ false) → (ns : List ℕ) → floats (map list (map g ns)) ≡ false
lists-plain g h [] = refl
lists-plain g h (n ∷ ns) = both-plain (list (g n)) (map list (map g ns)) (h n) (lists-plain g h ns)

-- ---- the scene

grid-plain : (x : ℕ) → floats (grid_calls x) ≡ false
grid-plain x i = (wholes-plain (grid_vertices x) i || false) || ((wholes-plain grid_triangles i || false) || false)

sphere-plain : (x : ℕ) → floats (sphere_calls x) ≡ false
sphere-plain x = ap (λ b. (b || false) || false) (wholes-plain (centres x))

placed-plain : floats placed_calls ≡ false
placed-plain = refl

scene-plain : (x : ℕ) → floats (scene_calls x) ≡ false
scene-plain x =
    append-plain (grid_calls x) (sphere_calls (state_after x 289) ++ placed_calls) (grid-plain x)
    (append-plain (sphere_calls (state_after x 289)) placed_calls (sphere-plain (state_after x 289)) placed-plain)

-- ---- the callers

picture-plain : (camera frame : List ℕ) (drawn : ℕ) → floats (picture_calls camera frame drawn) ≡ false
picture-plain camera frame drawn = ap (λ b. (b || false) || false) (wholes-plain (camera_position drawn))

labelled-plain : (camera frame : List ℕ) (x frames : ℕ) → floats (labelled_calls camera frame x frames) ≡ false
labelled-plain camera frame x frames =
    append-plain (opening_calls camera frame) (pictures_calls camera frame x frames ++ closing_calls camera frame) refl
    (append-plain (pictures_calls camera frame x frames) (closing_calls camera frame)
    (flat-plain (λ f. picture_calls camera frame (draw x f 65536)) (λ f. picture-plain camera frame (draw x f 65536)) (range_with_len 0 frames)) refl)

-- ---- the whole

one-plain : (ds : List Data) → floats ds ≡ false → has_float (phase (ds ∷ [])) ≡ false
one-plain ds h = ap (λ b. (b || false) || false) h

callers-plain : (x frames callers : ℕ) → has_float (phase (map (caller_calls x frames) (range_with_len 0 callers))) ≡ false
callers-plain x frames callers =
    ap (λ b. b || false)
    (lists-plain (caller_calls x frames) (λ q. labelled-plain (camera_label q) (frame_label q) (state_after x (frames * q)) frames) (range_with_len 0 callers))

releases-plain : has_float (phase (release_calls ∷ [])) ≡ false
releases-plain = refl

pub trace-plain : (seed callers frames : ℕ) → has_float (trace (phases seed callers frames)) ≡ false
trace-plain seed callers frames =
    let first = one-plain (scene_calls seed) (scene-plain seed) in
    let second = callers-plain (state_after seed 349) frames callers in
    ap (λ b. b || false) (λ i. first i || (second i || (releases-plain i || false)))

-- the text of a value without floats, and a newline
pub text_of : (bytes text : List ℕ) (d whole : Data) → d ≡ whole → has_float whole ≡ false → (has_float d ≡ false → text ≡ compact_text d) → bytes ≡ text ++ 10 ∷ [] →
    bytes ≡ compact_text whole ++ 10 ∷ []
text_of bytes text d whole same plain told pushed = pushed ∙ ap (λ t. t ++ 10 ∷ []) (told (ap has_float same ∙ plain) ∙ ap compact_text same)
