-- The scene that is made first: a rough surface of triangles and a cloud of spheres, twice beside each other, under two lights.
use Rattle.std.specs.Prelude.{ℕ, ◌+◌, ◌*◌, ℤ, pos, negsuc, ◌-ℤ◌, ◌*ℤ◌, List, [], ◌∷◌, ◌++◌, codes}
use Rattle.std.specs.List.{flat_map, range_with_len}
use Rattle.serde_json.specs.Data.{Data, string}
use Rattle.trace_make.specs.Draws.{draw, state_after}
use Rattle.trace_make.specs.Calls.{whole, wholes, words, new_call, new_of_call, array_call, set_call, commit_call}

-- ---- the rough surface: 17 by 17 vertices, a quarter apart, and two triangles in each of 16 by 16 cells

abbrev pub grid_coordinate : ℕ → ℤ
grid_coordinate i = (pos i -ℤ pos 8) *ℤ pos 16384

-- the vertex in row j at place i, with its height by a draw; the row's draws stand behind state x
abbrev pub grid_vertex : ℕ → ℕ → ℕ → List ℤ
grid_vertex x j i = grid_coordinate i ∷ pos (draw x i 8192) ∷ grid_coordinate j ∷ []

abbrev pub grid_row : ℕ → ℕ → List ℤ
grid_row x j = flat_map (grid_vertex x j) (range_with_len 0 17)

abbrev pub grid_vertices : ℕ → List ℤ
grid_vertices x = flat_map (λ j. grid_row (state_after x (17 * j)) j) (range_with_len 0 17)

-- the two triangles of the cell whose first vertex has this number
abbrev pub cell_triangles : ℕ → List ℤ
cell_triangles q = pos q ∷ pos (q + 1) ∷ pos (q + 17) ∷ pos (q + 1) ∷ pos (q + 18) ∷ pos (q + 17) ∷ []

abbrev pub cell_row : ℕ → List ℤ
cell_row j = flat_map (λ i. cell_triangles (17 * j + i)) (range_with_len 0 16)

abbrev pub grid_triangles : List ℤ
grid_triangles = flat_map cell_row (range_with_len 0 16)

abbrev pub grid_calls : ℕ → List Data
grid_calls x =
    array_call (codes "p") (codes "SCALAR_VEC3") 289 (codes "captured") 1 (wholes (grid_vertices x)) ∷
    array_call (codes "t") (codes "UINT32_VEC3") 512 (codes "captured") 2 (wholes grid_triangles) ∷
    new_of_call (codes "g") (codes "geometry") (codes "triangle") ∷
    set_call (codes "g") (codes "vertex.position") (codes "ARRAY1D") (string (codes "p")) ∷
    set_call (codes "g") (codes "primitive.index") (codes "ARRAY1D") (string (codes "t")) ∷
    commit_call (codes "g") ∷ []

-- ---- the spheres: 20 centres by draws, one radius

-- a place across the scene: within two to either side
abbrev pub across : ℕ → ℕ → ℤ
across x k = pos (draw x k 262144) -ℤ pos 131072

-- a centre from three draws, above the surface
abbrev pub centre : ℕ → List ℤ
centre x = across x 0 ∷ pos (16384 + draw x 1 65536) ∷ across x 2 ∷ []

abbrev pub centres : ℕ → List ℤ
centres x = flat_map (λ k. centre (state_after x (3 * k))) (range_with_len 0 20)

abbrev pub sphere_calls : ℕ → List Data
sphere_calls x =
    array_call (codes "b") (codes "SCALAR_VEC3") 20 (codes "shared") 3 (wholes (centres x)) ∷
    new_of_call (codes "k") (codes "geometry") (codes "sphere") ∷
    set_call (codes "k") (codes "vertex.position") (codes "ARRAY1D") (string (codes "b")) ∷
    set_call (codes "k") (codes "radius") (codes "SCALAR") (whole (pos 8192)) ∷
    commit_call (codes "k") ∷ []

-- ---- materials, surfaces, and the group of both

abbrev pub material_calls : List Data
material_calls =
    new_of_call (codes "m") (codes "material") (codes "matte") ∷
    set_call (codes "m") (codes "color") (codes "SCALAR_VEC3") (wholes (pos 52429 ∷ pos 39322 ∷ pos 26214 ∷ [])) ∷
    commit_call (codes "m") ∷
    new_of_call (codes "n") (codes "material") (codes "matte") ∷ []

-- a surface of a geometry with a material and an id
abbrev pub surface_calls : List ℕ → List ℕ → List ℕ → ℕ → List Data
surface_calls label geometry material id =
    new_call label (codes "surface") ∷
    set_call label (codes "geometry") (codes "GEOMETRY") (string geometry) ∷
    set_call label (codes "material") (codes "MATERIAL") (string material) ∷
    set_call label (codes "id") (codes "UINT32") (whole (pos id)) ∷
    commit_call label ∷ []

abbrev pub group_calls : List Data
group_calls =
    array_call (codes "a") (codes "SURFACE") 2 (codes "captured") 4 (words (codes "s" ∷ codes "u" ∷ [])) ∷
    new_call (codes "h") (codes "group") ∷
    set_call (codes "h") (codes "surface") (codes "ARRAY1D") (string (codes "a")) ∷
    commit_call (codes "h") ∷ []

-- ---- the group twice, moved along the first axis

abbrev pub moved_along : ℤ → List ℤ
moved_along z =
    pos 65536 ∷ pos 0 ∷ pos 0 ∷ pos 0 ∷ pos 65536 ∷ pos 0 ∷ pos 0 ∷ pos 0 ∷ pos 65536 ∷ z ∷ pos 0 ∷ pos 0 ∷ []

abbrev pub instance_calls : List ℕ → ℤ → ℕ → List Data
instance_calls label z id =
    new_of_call label (codes "instance") (codes "transform") ∷
    set_call label (codes "group") (codes "GROUP") (string (codes "h")) ∷
    set_call label (codes "transform") (codes "SCALAR_MAT34") (wholes (moved_along z)) ∷
    set_call label (codes "id") (codes "UINT32") (whole (pos id)) ∷
    commit_call label ∷ []

abbrev pub instances_calls : List Data
instances_calls = array_call (codes "v") (codes "INSTANCE") 2 (codes "captured") 5 (words (codes "i" ∷ codes "j" ∷ [])) ∷ []

-- ---- the lights

abbrev pub light_calls : List Data
light_calls =
    new_of_call (codes "d") (codes "light") (codes "directional") ∷
    set_call (codes "d") (codes "direction") (codes "SCALAR_VEC3") (wholes (negsuc 65535 ∷ negsuc 65535 ∷ negsuc 65535 ∷ [])) ∷
    commit_call (codes "d") ∷
    new_of_call (codes "o") (codes "light") (codes "point") ∷
    set_call (codes "o") (codes "position") (codes "SCALAR_VEC3") (wholes (pos 0 ∷ pos 196608 ∷ pos 0 ∷ [])) ∷
    set_call (codes "o") (codes "intensity") (codes "SCALAR") (whole (pos 131072)) ∷
    commit_call (codes "o") ∷
    array_call (codes "e") (codes "LIGHT") 2 (codes "captured") 6 (words (codes "d" ∷ codes "o" ∷ [])) ∷ []

-- ---- the world, and the renderer

abbrev pub world_calls : List Data
world_calls =
    new_call (codes "w") (codes "world") ∷
    set_call (codes "w") (codes "instance") (codes "ARRAY1D") (string (codes "v")) ∷
    set_call (codes "w") (codes "light") (codes "ARRAY1D") (string (codes "e")) ∷
    commit_call (codes "w") ∷
    new_call (codes "r") (codes "renderer") ∷
    set_call (codes "r") (codes "ambientRadiance") (codes "SCALAR") (whole (pos 13107)) ∷
    commit_call (codes "r") ∷ []

-- ---- the whole: 55 calls and 349 draws

-- what stands behind the shapes
abbrev pub placed_calls : List Data
placed_calls =
    material_calls
    ++ (surface_calls (codes "s") (codes "g") (codes "m") 1
    ++ (surface_calls (codes "u") (codes "k") (codes "n") 2
    ++ (group_calls
    ++ (instance_calls (codes "i") (negsuc 163839) 10
    ++ (instance_calls (codes "j") (pos 163840) 11
    ++ (instances_calls ++ (light_calls ++ world_calls)))))))

abbrev pub scene_calls : ℕ → List Data
scene_calls x = grid_calls x ++ (sphere_calls (state_after x 289) ++ placed_calls)
