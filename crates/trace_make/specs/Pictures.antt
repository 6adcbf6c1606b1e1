-- The callers that render the scene, each with a camera and a frame of its own, and the end of the scene.
use Rattle.std.specs.Prelude.{ℕ, ◌*◌, ℤ, pos, negsuc, ◌-ℤ◌, List, [], ◌∷◌, ◌++◌, codes, decimal, map}
use Rattle.std.specs.List.{flat_map, range_with_len}
use Rattle.serde_json.specs.Data.{Data, string}
use Rattle.trace_make.specs.Draws.{draw, state_after}
use Rattle.trace_make.specs.Calls.{whole, wholes, new_call, new_of_call, set_call, commit_call, release_call, render_call, wait_call, look_call}

-- the labels of a caller's camera and frame
abbrev pub camera_label : ℕ → List ℕ
camera_label q = codes "c" ++ decimal q

abbrev pub frame_label : ℕ → List ℕ
frame_label q = codes "f" ++ decimal q

-- a caller's camera and frame, by their labels
abbrev pub opening_calls : List ℕ → List ℕ → List Data
opening_calls camera frame =
    new_of_call camera (codes "camera") (codes "perspective") ∷
    set_call camera (codes "direction") (codes "SCALAR_VEC3") (wholes (pos 0 ∷ negsuc 21844 ∷ negsuc 65535 ∷ [])) ∷
    set_call camera (codes "aspect") (codes "SCALAR") (whole (pos 87381)) ∷
    new_call frame (codes "frame") ∷
    set_call frame (codes "world") (codes "WORLD") (string (codes "w")) ∷
    set_call frame (codes "camera") (codes "CAMERA") (string camera) ∷
    set_call frame (codes "renderer") (codes "RENDERER") (string (codes "r")) ∷
    set_call frame (codes "size") (codes "UINT32_VEC2") (wholes (pos 320 ∷ pos 240 ∷ [])) ∷
    set_call frame (codes "channel.color") (codes "DATA_TYPE") (string (codes "UFIXED8_VEC4")) ∷
    commit_call frame ∷ []

-- a place before the scene and above it
abbrev pub camera_position : ℕ → List ℤ
camera_position drawn = (pos drawn -ℤ pos 32768) ∷ pos 131072 ∷ pos 393216 ∷ []

-- one picture: the camera moved by a draw, rendered, awaited and looked at
abbrev pub picture_calls : List ℕ → List ℕ → ℕ → List Data
picture_calls camera frame drawn =
    set_call camera (codes "position") (codes "SCALAR_VEC3") (wholes (camera_position drawn)) ∷
    commit_call camera ∷
    render_call frame ∷
    wait_call frame ∷
    look_call frame (codes "channel.color") ∷ []

abbrev pub pictures_calls : List ℕ → List ℕ → ℕ → ℕ → List Data
pictures_calls camera frame x frames = flat_map (λ f. picture_calls camera frame (draw x f 65536)) (range_with_len 0 frames)

abbrev pub closing_calls : List ℕ → List ℕ → List Data
closing_calls camera frame = release_call camera ∷ release_call frame ∷ []

abbrev pub labelled_calls : List ℕ → List ℕ → ℕ → ℕ → List Data
labelled_calls camera frame x frames = opening_calls camera frame ++ (pictures_calls camera frame x frames ++ closing_calls camera frame)

-- all calls of caller q, whose draws stand behind those of the callers before it
abbrev pub caller_calls : ℕ → ℕ → ℕ → List Data
caller_calls x frames q = labelled_calls (camera_label q) (frame_label q) (state_after x (frames * q)) frames

-- ---- the end: every object of the scene is released

abbrev pub scene_labels : List (List ℕ)
scene_labels =
    codes "p" ∷ codes "t" ∷ codes "g" ∷ codes "b" ∷ codes "k" ∷ codes "m" ∷ codes "n" ∷ codes "s" ∷ codes "u" ∷ codes "a" ∷
    codes "h" ∷ codes "i" ∷ codes "j" ∷ codes "v" ∷ codes "d" ∷ codes "o" ∷ codes "e" ∷ codes "w" ∷ codes "r" ∷ []

abbrev pub release_calls : List Data
release_calls = map release_call scene_labels
