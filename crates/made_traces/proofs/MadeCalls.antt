-- Each call that is made keeps the rules of a trace, and which labels the calls bind.
use Rattle.std.proofs.Common.{◌≡◌, ℕ, ℤ, pos, ◌-ℤ◌, zero, suc, ◌+◌, ◌*◌, ◌<◌, ◌≤◌, true, List, [], ◌∷◌, ◌++◌, length, refl, sym, subst, ◌∙◌, arith, unsigned_abs, length-append}
use Rattle.std.specs.Prelude.{codes, decimal}
use Rattle.std.specs.List.{cons_option, flat_map, range_with_len}
use Rattle.std.proofs.lemmas.Bool.{le-leb, lt-ltb}
use Rattle.std.proofs.lemmas.Fmt.{decimal_digit}
use Rattle.std.proofs.lemmas.Int.{ints}
use Rattle.std.proofs.lemmas.List.Elements.{filter_map-append}
use Rattle.dev_types.specs.Bounded.{is_name}
use Rattle.json.proofs.Printed.Utf8.{are_ascii}
use Rattle.serde_json.specs.Data.{Data, string}
use Rattle.trace_make.specs.Calls.{whole, wholes, new_of_call, set_call, commit_call, render_call, wait_call, look_call}
use Rattle.trace_make.specs.Draws.{draw, state_after}
use Rattle.trace_make.specs.Scene.{centres, grid_calls, grid_triangles, grid_vertices, placed_calls, scene_calls, sphere_calls}
use Rattle.trace_make.specs.Pictures.{caller_calls, camera_label, closing_calls, frame_label, labelled_calls, opening_calls, picture_calls, pictures_calls, release_calls}
use Rattle.made_traces.proofs.CallRules.{label_of, labels_of}
use Rattle.made_traces.proofs.KeptCalls.{AreKept, are_kept-append, are_kept_by_test}
use Rattle.made_traces.proofs.MadeArrays.{IsBound, centres_are_kept, centres_call, drawn, is_near, near-high, near-low, near-small, triangles_are_kept, triangles_call, vertices_are_kept, vertices_call, whole_is}

-- calls that keep the rules, and the labels that they bind
pub record AreBound (ds : List Data) (labels : List (List ℕ)) : Type 0 where
  pub kept : AreKept ds
  pub binds : labels_of ds ≡ labels

bound-append : (xs ys : List Data) (ls ms : List (List ℕ)) → AreBound xs ls → AreBound ys ms → AreBound (xs ++ ys) (ls ++ ms)
bound-append xs ys ls ms h k = record {
  kept = are_kept-append xs ys h.kept k.kept;
  binds = filter_map-append label_of xs ys ∙ (λ i. h.binds i ++ k.binds i);
}

bound-cons : (d : Data) (ds : List Data) (l : List ℕ) (ls : List (List ℕ)) → IsBound d l → AreBound ds ls → AreBound (d ∷ ds) (l ∷ ls)
bound-cons d ds l ls h k = record { kept = (h.kept, k.kept); binds = λ i. cons_option (h.binds i) (k.binds i) }

-- ---- the scene

abbrev triangle_calls : List Data
triangle_calls =
    new_of_call (codes "g") (codes "geometry") (codes "triangle") ∷
    set_call (codes "g") (codes "vertex.position") (codes "ARRAY1D") (string (codes "p")) ∷
    set_call (codes "g") (codes "primitive.index") (codes "ARRAY1D") (string (codes "t")) ∷
    commit_call (codes "g") ∷ []

triangle_calls_bound : AreBound triangle_calls (codes "g" ∷ [])
triangle_calls_bound = record { kept = are_kept_by_test triangle_calls refl; binds = refl }

grid_bound : (x : ℕ) → AreBound (grid_calls x) (codes "p" ∷ codes "t" ∷ codes "g" ∷ [])
grid_bound x =
    bound-cons (vertices_call (wholes (grid_vertices x))) (triangles_call (wholes grid_triangles) ∷ triangle_calls) (codes "p") (codes "t" ∷ codes "g" ∷ []) (vertices_are_kept x)
    (bound-cons (triangles_call (wholes grid_triangles)) triangle_calls (codes "t") (codes "g" ∷ []) triangles_are_kept triangle_calls_bound)

abbrev placed_labels : List (List ℕ)
placed_labels =
    codes "m" ∷ codes "n" ∷ codes "s" ∷ codes "u" ∷ codes "a" ∷ codes "h" ∷ codes "i" ∷ codes "j" ∷ codes "v" ∷ codes "d" ∷ codes "o" ∷ codes "e" ∷
    codes "w" ∷ codes "r" ∷ []

placed_bound : AreBound placed_calls placed_labels
placed_bound = record { kept = are_kept_by_test placed_calls refl; binds = refl }

-- the labels of the scene, in the order in which they are bound
abbrev pub scene_labels : List (List ℕ)
scene_labels = codes "p" ∷ codes "t" ∷ codes "g" ∷ codes "b" ∷ codes "k" ∷ placed_labels

-- ---- a caller

-- a label of a letter and a digit
pub record IsLabel (label : List ℕ) : Type 0 where
  pub named : is_name label ≡ true
  pub ascii : are_ascii label ≡ true
  pub short : length label ≡ 2

label_is : (letter q : ℕ) → 33 ≤ letter → letter ≤ 126 → q < 8 → IsLabel (letter ∷ decimal q)
label_is letter q low high few =
    let label : IsLabel (letter ∷ (48 + q) ∷ []) = record {
      named = rw (le-leb 33 letter low, le-leb letter 126 high, le-leb 33 (48 + q) (omega arith), le-leb (48 + q) 126 (omega (arith, few))) refl;
      ascii = rw (lt-ltb letter 128 (omega (arith, high)), lt-ltb (48 + q) 128 (omega (arith, few))) refl;
      short = refl;
    } in
    subst (λ digits. IsLabel (letter ∷ digits)) (sym (decimal_digit q (omega (arith, few)))) label

camera_is_label : (q : ℕ) → q < 8 → IsLabel (camera_label q)
camera_is_label q few = label_is 99 q (omega arith) (omega arith) few

frame_is_label : (q : ℕ) → q < 8 → IsLabel (frame_label q)
frame_is_label q few = label_is 102 q (omega arith) (omega arith) few

module _ (camera frame : List ℕ) (c : IsLabel camera) (f : IsLabel frame) where
  opening_bound : AreBound (opening_calls camera frame) (camera ∷ frame ∷ [])
  opening_bound = record {
    kept = are_kept_by_test (opening_calls camera frame) (rw (c.named, f.named, c.ascii, f.ascii, c.short, f.short) refl);
    binds = rw (c.named, f.named) refl;
  }

  -- a picture from a place that is near
  abbrev picture_from : ℤ → List Data
  picture_from z =
      set_call camera (codes "position") (codes "SCALAR_VEC3") (wholes (z ∷ pos 131072 ∷ pos 393216 ∷ [])) ∷
      commit_call camera ∷
      render_call frame ∷
      wait_call frame ∷
      look_call frame (codes "channel.color") ∷ []

  picture_bound : (z : ℤ) → is_near z ≡ true → AreBound (picture_from z) []
  picture_bound z near = record {
    kept = are_kept_by_test (picture_from z) (rw (c.named, f.named, whole_is z, near-low z near, near-high z near, near-small z near, c.ascii, f.ascii, c.short, f.short) refl);
    binds = rw (c.named, f.named, whole_is z, near-low z near, near-high z near) refl;
  }

  closing_bound : AreBound (closing_calls camera frame) []
  closing_bound = record {
    kept = are_kept_by_test (closing_calls camera frame) (rw (c.named, f.named, c.ascii, f.ascii, c.short, f.short) refl);
    binds = rw (c.named, f.named) refl;
  }

  one_picture : (x k : ℕ) → AreBound (picture_calls camera frame (draw x k 65536)) []
  one_picture x k =
      let place = drawn x k 65536 (omega arith) in
      picture_bound (pos (draw x k 65536) -ℤ pos 32768) (lt-ltb (unsigned_abs (pos (draw x k 65536) -ℤ pos 32768)) 1048576 (omega (arith, ints, place)))

  pictures_bound : (x a n : ℕ) → AreBound (flat_map (λ k. picture_calls camera frame (draw x k 65536)) (range_with_len a n)) []
  pictures_bound x a zero = record { kept = tt; binds = refl }
  pictures_bound x a (suc n) =
      bound-append (picture_calls camera frame (draw x a 65536)) (flat_map (λ k. picture_calls camera frame (draw x k 65536)) (range_with_len (a + 1) n)) [] []
      (one_picture x a) (pictures_bound x (a + 1) n)

  labelled_bound : (x frames : ℕ) → AreBound (labelled_calls camera frame x frames) (camera ∷ frame ∷ [])
  labelled_bound x frames =
      bound-append (opening_calls camera frame) (pictures_calls camera frame x frames ++ closing_calls camera frame) (camera ∷ frame ∷ []) [] opening_bound
      (bound-append (pictures_calls camera frame x frames) (closing_calls camera frame) [] [] (pictures_bound x 0 frames) closing_bound)

  -- how many calls there are
  pictures_many : (x a n : ℕ) → length (flat_map (λ k. picture_calls camera frame (draw x k 65536)) (range_with_len a n)) ≡ 5 * n
  pictures_many x a zero = omega arith
  pictures_many x a (suc n) =
      let rest = pictures_many x (a + 1) n in
      let both = length-append (picture_calls camera frame (draw x a 65536)) (flat_map (λ k. picture_calls camera frame (draw x k 65536)) (range_with_len (a + 1) n)) in
      omega (arith, rest, both)

  labelled_many : (x frames : ℕ) → length (labelled_calls camera frame x frames) ≡ 12 + 5 * frames
  labelled_many x frames =
      let pictures = pictures_many x 0 frames in
      let one = length-append (opening_calls camera frame) (pictures_calls camera frame x frames ++ closing_calls camera frame) in
      let two = length-append (pictures_calls camera frame x frames) (closing_calls camera frame) in
      omega (arith, pictures, one, two)

pub caller_bound : (x frames q : ℕ) → q < 8 → AreBound (caller_calls x frames q) (camera_label q ∷ frame_label q ∷ [])
caller_bound x frames q few = labelled_bound (camera_label q) (frame_label q) (camera_is_label q few) (frame_is_label q few) (state_after x (frames * q)) frames

pub caller_many : (x frames q : ℕ) → q < 8 → length (caller_calls x frames q) ≡ 12 + 5 * frames
caller_many x frames q few = labelled_many (camera_label q) (frame_label q) (camera_is_label q few) (frame_is_label q few) (state_after x (frames * q)) frames

-- ---- the scene as a whole, and its end

abbrev ball_calls : List Data
ball_calls =
    new_of_call (codes "k") (codes "geometry") (codes "sphere") ∷
    set_call (codes "k") (codes "vertex.position") (codes "ARRAY1D") (string (codes "b")) ∷
    set_call (codes "k") (codes "radius") (codes "SCALAR") (whole (pos 8192)) ∷
    commit_call (codes "k") ∷ []

ball_calls_bound : AreBound ball_calls (codes "k" ∷ [])
ball_calls_bound = record { kept = are_kept_by_test ball_calls refl; binds = refl }

sphere_bound : (x : ℕ) → AreBound (sphere_calls x) (codes "b" ∷ codes "k" ∷ [])
sphere_bound x = bound-cons (centres_call (wholes (centres x))) ball_calls (codes "b") (codes "k" ∷ []) (centres_are_kept x) ball_calls_bound

pub scene_bound : (x : ℕ) → AreBound (scene_calls x) scene_labels
scene_bound x =
    bound-append (grid_calls x) (sphere_calls (state_after x 289) ++ placed_calls) (codes "p" ∷ codes "t" ∷ codes "g" ∷ []) (codes "b" ∷ codes "k" ∷ placed_labels) (grid_bound x)
    (bound-append (sphere_calls (state_after x 289)) placed_calls (codes "b" ∷ codes "k" ∷ []) placed_labels (sphere_bound (state_after x 289)) placed_bound)

pub scene_many : (x : ℕ) → length (scene_calls x) ≡ 55
scene_many x = refl

pub release_bound : AreBound release_calls []
release_bound = record { kept = are_kept_by_test release_calls refl; binds = refl }
