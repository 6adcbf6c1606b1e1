-- The hits of a ray with the primitives of a scene, from front to back. A primitive is seen here as a place and a shape.
use Rattle.std.specs.Prelude.{Option, Some, None, ℕ, zero, suc, List, [], ◌∷◌, Bool, ◌&&◌, ◌||◌, ◌==◌, nat_lt, if◌then◌else◌, length}
use Rattle.std.specs.List.{filter, filter_map}
use Rattle.std.specs.Option.{option_map}
use Rattle.fx_math.specs.declared.vectors.Ray.{Ray}
use Rattle.fx_math.specs.declared.scene.Place.{Place}
use Rattle.fx_math.specs.declared.scene.Shape.{Shape}
use Rattle.picture_model.specs.declared.records.Hit.{Hit}
use Rattle.picture_model.specs.Depths.{depth}

-- place a is lower than place b: by instance, then surface, then primitive
unfoldable pub is_lower : Place → Place → Bool
is_lower a b =
    nat_lt a.inst b.inst
    || (a.inst == b.inst && (nat_lt a.surf b.surf
    || (a.surf == b.surf && nat_lt a.prim b.prim)))

-- hit a stands before hit b: by depth, and at one depth by place
unfoldable pub is_nearer : Hit → Hit → Bool
is_nearer a b = nat_lt a.depth b.depth || (a.depth == b.depth && is_lower a.place b.place)

-- the nearer of two hits, where there are two
abbrev pub nearer : Option Hit → Option Hit → Option Hit
nearer None b = b
nearer (Some a) None = Some a
nearer (Some a) (Some b) = if is_nearer b a then Some b else Some a

-- the nearest of a list of hits
abbrev pub nearest_of : List Hit → Option Hit
nearest_of [] = None
nearest_of (h ∷ hs) = nearer (Some h) (nearest_of hs)

-- the hit of the ray with one primitive
abbrev pub hit_with : Ray → Place × Shape → Option Hit
hit_with ray p = option_map (λ s. record { depth = s; place = p.0 }) (depth ray p.1)

-- the hits of the ray with all primitives, in their order
abbrev pub all_hits : Ray → List (Place × Shape) → List Hit
all_hits ray placed = filter_map (hit_with ray) placed

-- the nearest hit of the ray: of all rows the one with the least depth, and of those the one with the lowest place
unfoldable pub nearest : Ray → List (Place × Shape) → Option Hit
nearest ray placed = nearest_of (all_hits ray placed)

-- a hit, where it stands behind the last one
abbrev pub behind : Hit → Option Hit → Option Hit
behind last None = None
behind last (Some h) = if is_nearer last h then Some h else None

-- the nearest of the hits behind a given one
unfoldable pub hit_after : Ray → List (Place × Shape) → Hit → Option Hit
hit_after ray placed last = nearest_of (filter (is_nearer last) (all_hits ray placed))

-- a hit, if there is one, and those behind it from front to back, at most n in all
abbrev pub hits_from : Ray → List (Place × Shape) → ℕ → Option Hit → List Hit
hits_from ray placed zero next = []
hits_from ray placed (suc n) None = []
hits_from ray placed (suc n) (Some h) = h ∷ hits_from ray placed n (hit_after ray placed h)

-- all hits of the ray from front to back: the nearest, and then the one after the last until there is none
unfoldable pub hits : Ray → List (Place × Shape) → List Hit
hits ray placed = hits_from ray placed (length placed) (nearest ray placed)
