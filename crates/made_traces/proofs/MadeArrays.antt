-- Numbers and arrays of a made trace: what is lent is plain and of its form.
use Rattle.std.proofs.Common.{◌≡◌, ℕ, ℤ, pos, negsuc, zero, suc, ◌+◌, ◌*◌, ◌<◌, ◌≤◌, ◌^◌, Bool, true, false, List, [], ◌∷◌, Option, Some, None, map, length, refl, ap, ◌∙◌, arith, nat_lt, unsigned_abs, length-append, mod-lt}
use Rattle.std.specs.Prelude.{codes, is_some, option_and_then, int_le, neg_ℤ, ◌-◌}
use Rattle.std.specs.List.{flat_map, list_all, range_with_len}
use Rattle.std.proofs.lemmas.Bool.{and_parts, and_from, ltb-true, lt-ltb, le-leb, eq-eqb}
use Rattle.std.proofs.lemmas.Int.{ints}
use Rattle.std.proofs.lemmas.List.{length-map}
use Rattle.std.proofs.lemmas.List.Folds.{list_all-append}
use Rattle.dev_types.specs.declared.data_types.DataType.TheVariants as ty
use Rattle.serde_json.specs.Data.{Data, depth, items_depth}
use Rattle.serde_json.specs.Find.{of_integer}
use Rattle.serde_json.specs.View.{items_of}
use Rattle.trace_make.specs.Calls.{whole, wholes, array_call}
use Rattle.trace_make.specs.Draws.{draw, state_after}
use Rattle.trace_make.specs.Scene.{across, centre, centres, grid_coordinate, grid_row, grid_triangles, grid_vertex, grid_vertices}
use Rattle.trace_text.specs.Components.{component_bytes}
use Rattle.trace_text.specs.Forms.{elements_of}
use Rattle.trace_text.specs.Json.{each, list_of, whole_of}
use Rattle.trace_text.proofs.JsonFacts.{elements-data_items}
use Rattle.made_traces.proofs.CallRules.{label_of}
use Rattle.made_traces.proofs.KeptCalls.{IsKept}
use Rattle.made_traces.proofs.PlainData.{is_plain, is_small, items_plain, weight, items_weight}

-- ---- numbers

-- a number that is less than 2^20 in size
abbrev pub is_near : ℤ → Bool
is_near z = nat_lt (unsigned_abs z) 1048576

pub near-small : (z : ℤ) → is_near z ≡ true → is_small (of_integer z) ≡ true
near-small (pos n) h = let near = ltb-true _ _ h in lt-ltb n 4294967296 (omega (arith, near))
near-small (negsuc n) h = let near = ltb-true _ _ h in lt-ltb n 4294967296 (omega (arith, near))

pub near-low : (z : ℤ) → is_near z ≡ true → int_le (neg_ℤ (pos (2 ^ 31))) z ≡ true
near-low (pos n) h = refl
near-low (negsuc n) h = let near = ltb-true _ _ h in le-leb n 2147483647 (omega (arith, near))

pub near-high : (z : ℤ) → is_near z ≡ true → int_le z (pos (2 ^ 31 - 1)) ≡ true
near-high (pos n) h = let near = ltb-true _ _ h in le-leb n 2147483647 (omega (arith, near))
near-high (negsuc n) h = refl

pub whole_is : (z : ℤ) → whole_of (whole z) ≡ Some z
whole_is (pos n) = refl
whole_is (negsuc n) = refl

-- a draw below n
pub drawn : (x k n : ℕ) → 0 < n → draw x k n < n
drawn x k n some = mod-lt _ some

-- ---- lists of numbers

some_is : {A : Type 0} (o : Option A) → is_some o ≡ true → (a : A) × (o ≡ Some a)
some_is None h = absurd cc
some_is (Some a) h = (a, refl)

each_whole : (zs : List ℤ) → each whole_of (map whole zs) ≡ Some zs
each_whole [] = refl
each_whole (z ∷ zs) = rw (whole_is z, each_whole zs) refl

each_some : {A B : Type 0} (f : A → Option B) (p : A → Bool) → ((a : A) → p a ≡ true → is_some (f a) ≡ true) → (xs : List A) → list_all p xs ≡ true → is_some (each f xs) ≡ true
each_some f p gives [] h = refl
each_some f p gives (x ∷ xs) h =
    let q = and_parts _ _ h in
    let first = some_is (f x) (gives x q.0) in
    let rest = some_is (each f xs) (each_some f p gives xs q.1) in
    rw (first.1, rest.1) refl

wholes-plain : (zs : List ℤ) → list_all is_near zs ≡ true → items_plain (items_of (map whole zs)) ≡ true
wholes-plain [] h = refl
wholes-plain (z ∷ zs) h = let p = and_parts _ _ h in and_from _ _ (near-small z p.0) (wholes-plain zs p.1)

wholes-light : (zs : List ℤ) → items_weight (items_of (map whole zs)) ≡ 12 * length zs
wholes-light [] = refl
wholes-light (z ∷ zs) = let rest = wholes-light zs in omega (arith, rest)

wholes-flat : (zs : List ℤ) → items_depth (items_of (map whole zs)) ≤ 0
wholes-flat [] = omega arith
wholes-flat (z ∷ zs) = let rest = wholes-flat zs in omega (arith, rest)

-- lists over a range
near-flat_map : (f : ℕ → List ℤ) (a n : ℕ) → ((i : ℕ) → i < a + n → list_all is_near (f i) ≡ true) → list_all is_near (flat_map f (range_with_len a n)) ≡ true
near-flat_map f a zero each = refl
near-flat_map f a (suc n) each =
    let first : a < a + suc n = omega arith in
    list_all-append is_near (f a) (flat_map f (range_with_len (a + 1) n))
    ∙ and_from _ _ (each a first) (near-flat_map f (a + 1) n (λ i below. each i (omega (arith, below))))

length-flat : (f : ℕ → List ℤ) (k a n : ℕ) → ((i : ℕ) → length (f i) ≡ k) → length (flat_map f (range_with_len a n)) ≡ n * k
length-flat f k a zero each = omega arith
length-flat f k a (suc n) each =
    let own = each a in
    let rest = length-flat f k (a + 1) n each in
    let both : k + n * k ≡ suc n * k = omega arith in
    length-append (f a) (flat_map f (range_with_len (a + 1) n)) ∙ (λ i. own i + rest i) ∙ both

-- ---- arrays

signed_some : (z : ℤ) → is_near z ≡ true → is_some (component_bytes ty.ScalarVec3 z) ≡ true
signed_some z h = rw (near-low z h, near-high z h) refl

abbrev is_index : ℤ → Bool
is_index (pos n) = nat_lt n 1048576
is_index (negsuc n) = false

index-near : (z : ℤ) → is_index z ≡ true → is_near z ≡ true
index-near (pos n) h = h
index-near (negsuc n) h = absurd cc

indices-near : (zs : List ℤ) → list_all is_index zs ≡ true → list_all is_near zs ≡ true
indices-near [] h = refl
indices-near (z ∷ zs) h = let p = and_parts _ _ h in and_from _ _ (index-near z p.0) (indices-near zs p.1)

unsigned_some : (z : ℤ) → is_index z ≡ true → is_some (component_bytes ty.Uint32Vec3 z) ≡ true
unsigned_some (pos n) h = let near = ltb-true _ _ h in let fits = lt-ltb n 4294967296 (omega (arith, near)) in rw fits refl
unsigned_some (negsuc n) h = absurd cc

points_are : (n : ℕ) (zs : List ℤ) → length zs ≡ n * 3 → list_all is_near zs ≡ true → is_some (option_and_then (elements_of ty.ScalarVec3 n) (list_of (wholes zs))) ≡ true
points_are n zs many near =
    let count = eq-eqb (length (map whole zs)) (n * 3) (length-map zs whole ∙ many) in
    let bytes = some_is (each (component_bytes ty.ScalarVec3) zs) (each_some (component_bytes ty.ScalarVec3) is_near signed_some zs near) in
    ap (λ ds. is_some (elements_of ty.ScalarVec3 n ds)) (elements-data_items (map whole zs)) ∙ rw (count, each_whole zs, bytes.1) refl

indices_are : (n : ℕ) (zs : List ℤ) → length zs ≡ n * 3 → list_all is_index zs ≡ true → is_some (option_and_then (elements_of ty.Uint32Vec3 n) (list_of (wholes zs))) ≡ true
indices_are n zs many near =
    let count = eq-eqb (length (map whole zs)) (n * 3) (length-map zs whole ∙ many) in
    let bytes = some_is (each (component_bytes ty.Uint32Vec3) zs) (each_some (component_bytes ty.Uint32Vec3) is_index unsigned_some zs near) in
    ap (λ ds. is_some (elements_of ty.Uint32Vec3 n ds)) (elements-data_items (map whole zs)) ∙ rw (count, each_whole zs, bytes.1) refl

-- a call that keeps the rules and binds a label
pub record IsBound (d : Data) (label : List ℕ) : Type 0 where
  pub kept : IsKept d
  pub binds : label_of d ≡ Some label

lent : (zs : List ℤ) → length zs ≤ 1580 → list_all is_near zs ≡ true → (is_plain (wholes zs) ≡ true) × (weight (wholes zs) ≤ 19000) × (depth (wholes zs) ≤ 1)
lent zs few near =
    let each = wholes-light zs in
    let flat = wholes-flat zs in
    (wholes-plain zs near, omega (arith, each, few), omega (arith, flat))

-- the calls that make the arrays, each of what it lends
abbrev pub vertices_call : Data → Data
vertices_call v = array_call (codes "p") (codes "SCALAR_VEC3") 289 (codes "captured") 1 v

abbrev pub triangles_call : Data → Data
triangles_call v = array_call (codes "t") (codes "UINT32_VEC3") 512 (codes "captured") 2 v

abbrev pub centres_call : Data → Data
centres_call v = array_call (codes "b") (codes "SCALAR_VEC3") 20 (codes "shared") 3 v

vertices_kept : (v : Data) → is_some (option_and_then (elements_of ty.ScalarVec3 289) (list_of v)) ≡ true → is_plain v ≡ true → weight v ≤ 19000 → depth v ≤ 1 →
    IsBound (vertices_call v) (codes "p")
vertices_kept v given plain light flat =
    let elements = some_is _ given in
    record {
      kept = record { call = rw elements.1 refl; plain = rw plain refl; light = omega (arith, light); flat = omega (arith, flat) };
      binds = rw elements.1 refl;
    }

triangles_kept : (v : Data) → is_some (option_and_then (elements_of ty.Uint32Vec3 512) (list_of v)) ≡ true → is_plain v ≡ true → weight v ≤ 19000 → depth v ≤ 1 →
    IsBound (triangles_call v) (codes "t")
triangles_kept v given plain light flat =
    let elements = some_is _ given in
    record {
      kept = record { call = rw elements.1 refl; plain = rw plain refl; light = omega (arith, light); flat = omega (arith, flat) };
      binds = rw elements.1 refl;
    }

centres_kept : (v : Data) → is_some (option_and_then (elements_of ty.ScalarVec3 20) (list_of v)) ≡ true → is_plain v ≡ true → weight v ≤ 19000 → depth v ≤ 1 →
    IsBound (centres_call v) (codes "b")
centres_kept v given plain light flat =
    let elements = some_is _ given in
    record {
      kept = record { call = rw elements.1 refl; plain = rw plain refl; light = omega (arith, light); flat = omega (arith, flat) };
      binds = rw elements.1 refl;
    }

-- ---- the rough surface

coordinate_near : (i : ℕ) → i < 17 → is_near (grid_coordinate i) ≡ true
coordinate_near i below = lt-ltb (unsigned_abs (grid_coordinate i)) 1048576 (omega (arith, ints, below))

vertex_near : (x j i : ℕ) → j < 17 → i < 17 → list_all is_near (grid_vertex x j i) ≡ true
vertex_near x j i row place =
    let height = drawn x i 8192 (omega arith) in
    and_from _ _ (coordinate_near i place) (and_from _ _ (lt-ltb (draw x i 8192) 1048576 (omega (arith, height))) (and_from _ _ (coordinate_near j row) refl))

vertices_near : (x : ℕ) → list_all is_near (grid_vertices x) ≡ true
vertices_near x =
    near-flat_map (λ j. grid_row (state_after x (17 * j)) j) 0 17
    (λ j row. near-flat_map (grid_vertex (state_after x (17 * j)) j) 0 17 (λ i place. vertex_near (state_after x (17 * j)) j i row place))

vertices_many : (x : ℕ) → length (grid_vertices x) ≡ 867
vertices_many x =
    length-flat (λ j. grid_row (state_after x (17 * j)) j) 51 0 17 (λ j. length-flat (grid_vertex (state_after x (17 * j)) j) 3 0 17 (λ i. refl))

triangles_index : list_all is_index grid_triangles ≡ true
triangles_index = refl

triangles_many : length grid_triangles ≡ 1536
triangles_many = refl

-- ---- the spheres

across_near : (x k : ℕ) → is_near (across x k) ≡ true
across_near x k = let place = drawn x k 262144 (omega arith) in lt-ltb (unsigned_abs (across x k)) 1048576 (omega (arith, ints, place))

centre_near : (x : ℕ) → list_all is_near (centre x) ≡ true
centre_near x =
    let height = drawn x 1 65536 (omega arith) in
    and_from _ _ (across_near x 0) (and_from _ _ (lt-ltb (16384 + draw x 1 65536) 1048576 (omega (arith, height))) (and_from _ _ (across_near x 2) refl))

centres_near : (x : ℕ) → list_all is_near (centres x) ≡ true
centres_near x = near-flat_map (λ k. centre (state_after x (3 * k))) 0 20 (λ k below. centre_near (state_after x (3 * k)))

centres_many : (x : ℕ) → length (centres x) ≡ 60
centres_many x = length-flat (λ k. centre (state_after x (3 * k))) 3 0 20 (λ k. refl)

-- ---- the three arrays

pub vertices_are_kept : (x : ℕ) → IsBound (vertices_call (wholes (grid_vertices x))) (codes "p")
vertices_are_kept x =
    let many = vertices_many x in
    let near = vertices_near x in
    let text = lent (grid_vertices x) (omega (arith, many)) near in
    vertices_kept (wholes (grid_vertices x)) (points_are 289 (grid_vertices x) many near) text.0 text.1 text.2

pub triangles_are_kept : IsBound (triangles_call (wholes grid_triangles)) (codes "t")
triangles_are_kept =
    let many = triangles_many in
    let text = lent grid_triangles (omega (arith, many)) (indices-near grid_triangles triangles_index) in
    triangles_kept (wholes grid_triangles) (indices_are 512 grid_triangles many triangles_index) text.0 text.1 text.2

pub centres_are_kept : (x : ℕ) → IsBound (centres_call (wholes (centres x))) (codes "b")
centres_are_kept x =
    let many = centres_many x in
    let near = centres_near x in
    let text = lent (centres x) (omega (arith, many)) near in
    centres_kept (wholes (centres x)) (points_are 20 (centres x) many near) text.0 text.1 text.2
