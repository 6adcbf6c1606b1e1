-- The image of the triangle.
use Rattle.std.specs.Prelude.{ℕ, List, [], ◌∷◌, ◌++◌, codes}

-- the image of its picture: rows from the top, three bytes a pixel
abbrev red : List ℕ
red = 255 ∷ 0 ∷ 0 ∷ []

abbrev black : List ℕ
black = 0 ∷ 0 ∷ 0 ∷ []

abbrev pub triangle_image : List ℕ
triangle_image =
    codes "P6\n4 4\n255\n" ++ (
    red ++ black ++ black ++ black ++
    red ++ red ++ black ++ black ++
    red ++ red ++ red ++ black ++
    red ++ red ++ red ++ red)
