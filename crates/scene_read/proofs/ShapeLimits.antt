-- What the tests of ranges say of shapes.
use Rattle.std.proofs.Common.{ℕ, zero, suc, ◌+◌, ◌*◌, ◌^◌, ◌≡◌, ◌<◌, ◌≤◌, ◌∙◌, ℤ, pos, negsuc, ◌≤ℤ◌, ◌*ℤ◌, int_le, Bool, true, false, List, [], ◌∷◌, ◌++◌, All, Option, Some, None, map, refl, sym, ap, subst, length, get_or, take, arith}
use Rattle.std.specs.Prelude.{cond, not}
use Rattle.std.specs.Int.{int_div_euclid}
use Rattle.std.specs.List.{enumerate_from, find, flat_map, list_all}
use Rattle.std.specs.Option.{option_map}
use Rattle.std.proofs.lemmas.Bool.{and_parts, leb-true}
use Rattle.std.proofs.lemmas.Int.{ints}
use Rattle.std.proofs.lemmas.List.Elements.{All-nil, All-cons, All-head, All-tail}
use Rattle.fx_math.specs.Mat34.{axis_length, placed, scaled_radius}
use Rattle.fx_math.specs.Vec3.{reach}
use Rattle.fx_math.specs.declared.transforms.Mat34.{Mat34}
use Rattle.fx_math.specs.declared.vectors.Vec3.{Vec3}
use Rattle.kind_tables.specs.Ranges.{first_broken, is_amount, is_between, is_color, is_point, is_radius, radius_tests, triangle_tests}
use Rattle.kind_tables.specs.Shapes.{radius_by, sphere, triangle, vertex}
use Rattle.picture_model.proofs.Spheres.{from_le}
use Rattle.picture_model.specs.Limits.{IsBetween, IsColor, IsPoint, IsShapeWithin}

-- each of some tests passes
abbrev pub AllPass : List (List ℕ × Bool) → Type 0
AllPass [] = Unit {0}
AllPass (test ∷ tests) = (test.1 ≡ true) × AllPass tests

pub none_broken : (tests : List (List ℕ × Bool)) → first_broken tests ≡ None → AllPass tests
none_broken [] none = tt
none_broken (test ∷ tests) none = by test.1 refl (none_broken tests)
  where
    by : (b : Bool) → test.1 ≡ b → (first_broken tests ≡ None → AllPass tests) → (test.1 ≡ true) × AllPass tests
    by true is rest = (is, rest (sym (ap (λ b. option_map (λ t. t.0) (cond (not b) (Some test) (find (λ (t : List ℕ × Bool). not t.1) tests))) is) ∙ none))
    by false is rest =
        let some : Some test.0 ≡ None = sym (ap (λ b. option_map (λ t. t.0) (cond (not b) (Some test) (find (λ (t : List ℕ × Bool). not t.1) tests))) is) ∙ none in absurd cc

pub both_pass : (xs ys : List (List ℕ × Bool)) → AllPass (xs ++ ys) → AllPass xs × AllPass ys
both_pass [] ys pass = (tt, pass)
both_pass (x ∷ xs) ys pass = let rest : AllPass xs × AllPass ys = both_pass xs ys pass.1 in ((pass.0, rest.0), rest.1)

-- a test of all items
pub all_pass : {X : Type 0} (P : X → Type 0) (p : X → Bool) → ((x : X) → p x ≡ true → P x) → (xs : List X) → list_all p xs ≡ true → All P xs
all_pass P p says [] pass = All-nil P
all_pass P p says (x ∷ xs) pass =
    let both : (p x ≡ true) × (list_all p xs ≡ true) = and_parts (p x) (list_all p xs) pass in
    All-cons P x xs (says x both.0) (all_pass P p says xs both.1)

-- a point, an amount, a colour, a number between two ends
pub point_within : (v : Vec3) → is_point v ≡ true → IsPoint v
point_within v pass = leb-true (reach v) (2 ^ 28) pass

pub amount_within : (z : ℤ) → is_amount z ≡ true → pos 0 ≤ℤ z
amount_within z pass = from_le (pos 0) z pass

pub color_within : (color : List ℤ) → is_color color ≡ true → IsColor color
color_within color pass = all_pass (λ c. pos 0 ≤ℤ c) is_amount amount_within color pass

pub number_between : (low high : ℕ) (z : ℤ) → is_between (pos low) (pos high) z ≡ true → IsBetween low high z
number_between low high z pass =
    let both : (int_le (pos low) z ≡ true) × (int_le z (pos high) ≡ true) = and_parts (int_le (pos low) z) (int_le z (pos high)) pass in
    record { from = from_le (pos low) z both.0; to = from_le z (pos high) both.1 }

-- a triangle has three vertex numbers
pub triangle_within : (m : Mat34) (positions : List Vec3) (corners : List ℕ) → length corners ≡ 3 → list_all (λ i. is_point (placed m (vertex positions i))) corners ≡ true →
    IsShapeWithin (triangle m positions corners)
triangle_within m positions [] three pass = absurd (omega (arith, three))
triangle_within m positions (a ∷ []) three pass = absurd (omega (arith, three))
triangle_within m positions (a ∷ b ∷ []) three pass = absurd (omega (arith, three))
triangle_within m positions (a ∷ b ∷ c ∷ rest) three pass =
    let test : ℕ → Bool = λ i. is_point (placed m (vertex positions i)) in
    let first : (test a ≡ true) × (list_all test (b ∷ c ∷ rest) ≡ true) = and_parts (test a) (list_all test (b ∷ c ∷ rest)) pass in
    let second : (test b ≡ true) × (list_all test (c ∷ rest) ≡ true) = and_parts (test b) (list_all test (c ∷ rest)) first.1 in
    let third : (test c ≡ true) × (list_all test rest ≡ true) = and_parts (test c) (list_all test rest) second.1 in
    record {
      first = point_within (placed m (vertex positions a)) first.0;
      second = point_within (placed m (vertex positions b)) second.0;
      third = point_within (placed m (vertex positions c)) third.0;
    }

pub triangles_within : (m : Mat34) (positions : List Vec3) (corners : List (List ℕ)) → All (λ c. length c ≡ 3) corners → AllPass (flat_map (triangle_tests m positions) corners) →
    All IsShapeWithin (map (triangle m positions) corners)
triangles_within m positions [] threes pass = All-nil IsShapeWithin
triangles_within m positions (c ∷ corners) threes pass =
    All-cons IsShapeWithin (triangle m positions c) (map (triangle m positions) corners)
    (triangle_within m positions c (All-head (λ c. length c ≡ 3) c corners threes) pass.1.0)
    (triangles_within m positions corners (All-tail (λ c. length c ≡ 3) c corners threes) pass.1.1)

-- a radius under a transform
radius_low : (m : Mat34) (r : ℤ) → pos 0 ≤ℤ r → pos 0 ≤ℤ scaled_radius m r
unfolding scaled_radius
radius_low m (pos n) low =
    let product : pos n *ℤ pos (axis_length m) ≡ pos (n * axis_length m) = refl in
    subst (λ z. pos 0 ≤ℤ int_div_euclid z (pos 65536)) (sym product) (omega (arith, ints))
radius_low m (negsuc n) low = absurd (omega (arith, ints, low))

pub radius_within : (m : Mat34) (r : ℤ) → is_radius m r ≡ true → IsBetween 0 (2 ^ 28) (scaled_radius m r)
radius_within m r pass =
    let both : (is_amount r ≡ true) × (int_le (scaled_radius m r) (pos (2 ^ 28)) ≡ true) = and_parts (is_amount r) (int_le (scaled_radius m r) (pos (2 ^ 28))) pass in
    record { from = radius_low m r (amount_within r both.0); to = from_le (scaled_radius m r) (pos (2 ^ 28)) both.1 }

in_front : {X : Type 0} (p : X → Bool) (xs : List X) (n k : ℕ) (d : X) → list_all p (take n xs) ≡ true → n ≤ length xs → k < n → p (get_or xs k d) ≡ true
in_front p [] n k d pass long less = absurd (omega (arith, long, less))
in_front p (x ∷ xs) zero k d pass long less = absurd (omega (arith, less))
in_front p (x ∷ xs) (suc n) zero d pass long less = (and_parts (p x) (list_all p (take n xs)) pass).0
in_front p (x ∷ xs) (suc n) (suc k) d pass long less =
    in_front p xs n k d (and_parts (p x) (list_all p (take n xs)) pass).1 (omega (arith, long)) (omega (arith, less))

pub radii_pass : (m : Mat34) (radii : Option (List ℤ)) (common : ℤ) (count : ℕ) → AllPass (radius_tests m radii common count) →
    (k : ℕ) → k < count → is_radius m (radius_by radii common k) ≡ true
radii_pass m None common count pass k less = pass.0
radii_pass m (Some radii) common count pass k less = in_front (is_radius m) radii count k (pos 0) pass.1.0 (leb-true count (length radii) pass.0) less

pub spheres_within : (m : Mat34) (radii : Option (List ℤ)) (common : ℤ) (first : ℕ) (centres : List Vec3) → list_all (λ p. is_point (placed m p)) centres ≡ true →
    ((k : ℕ) → k < first + length centres → is_radius m (radius_by radii common k) ≡ true) → All IsShapeWithin (map (sphere m radii common) (enumerate_from first centres))
spheres_within m radii common first [] pass radius = All-nil IsShapeWithin
spheres_within m radii common first (p ∷ centres) pass radius =
    let both : (is_point (placed m p) ≡ true) × (list_all (λ p. is_point (placed m p)) centres ≡ true) = and_parts (is_point (placed m p)) (list_all (λ p. is_point (placed m p)) centres) pass in
    All-cons IsShapeWithin (sphere m radii common (first, p)) (map (sphere m radii common) (enumerate_from (first + 1) centres))
    (record { middle = point_within (placed m p) both.0; size = radius_within m (radius_by radii common first) (radius first (omega arith)) })
    (spheres_within m radii common (first + 1) centres both.1 (λ k less. radius k (omega (arith, less))))
