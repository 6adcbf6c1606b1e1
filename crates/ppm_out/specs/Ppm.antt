-- Binary PPM images of frames, whose pixels have four bytes and stand by rows from the lowest up.
use Rattle.std.specs.Prelude.{◌≡◌, ℕ, zero, suc, ◌*◌, List, [], ◌∷◌, ◌++◌, length, take, drop, Bool, codes, decimal, if◌then◌else◌}

-- the three bytes of each pixel: of a colour red, green and blue, of an id its lower three bytes from the highest down
abbrev pub shown : Bool → List ℕ → List ℕ
shown color (a ∷ b ∷ c ∷ d ∷ rest) = (if color then a ∷ b ∷ c ∷ [] else c ∷ b ∷ a ∷ []) ++ shown color rest
shown color _ = []

-- row y of the pixels of a frame that is w wide
abbrev pub row_of : ℕ → List ℕ → ℕ → List ℕ
row_of w pixels y = take (4 * w) (drop (4 * w * y) pixels)

-- the lowest h rows, from the top
abbrev pub from_top : Bool → ℕ → List ℕ → ℕ → List ℕ
from_top color w pixels zero = []
from_top color w pixels (suc y) = shown color (row_of w pixels y) ++ from_top color w pixels y

-- `P6`, the width and the height, and the greatest byte
abbrev pub header : ℕ → ℕ → List ℕ
header w h = codes "P6\n" ++ (decimal w ++ (codes " " ++ (decimal h ++ codes "\n255\n")))

-- the image of a frame
abbrev pub ppm : Bool → ℕ → ℕ → List ℕ → List ℕ
ppm color w h pixels = header w h ++ from_top color w pixels h

-- nothing was changed up to the old end
abbrev pub KeepsFront : List ℕ → List ℕ → Type 0
KeepsFront old new = take (length old) new ≡ old
