-- A worked history: a triangle is made, rendered, mapped, and the device closed.
use Rattle.std.specs.Prelude.{ℕ, ℤ, pos, negsuc, List, [], ◌∷◌, ◌++◌, Option, Some, None, codes, true, false}
use Rattle.std.specs.List.{flat_map}
use Rattle.dev_types.specs.ValueBytes.{bytes_of}
use Rattle.dev_types.specs.declared.data_types.DataType.{DataType}
use Rattle.dev_types.specs.declared.data_types.DataType.TheVariants as ty
use Rattle.dev_types.specs.declared.handles.Channel.TheVariants.{Color}
use Rattle.dev_types.specs.declared.handles.Origin.TheVariants.{Captured, Managed}
use Rattle.dev_types.specs.declared.refusals.Refused.{Refused}
use Rattle.dev_types.specs.declared.refusals.Refused.TheVariants.{ArrayMapped, BadHandle, BadShape, BadSubtype, BadType, InFlight, NoPicture, NoSuchName, NotHeld, NotMapped, UnknownObjectParameter, WrongKind}
use Rattle.dev_types.specs.declared.values.Value.{Value}
use Rattle.dev_types.specs.declared.values.Value.TheVariants.{Object, Scalar, Uint32, ScalarVec3, TypeName, Uint32Vec2}
use Rattle.seq_model.specs.Histories.{History}
use Rattle.seq_model.specs.Steps.{zeros}
use Rattle.seq_model.specs.declared.calls.Call.{Call}
use Rattle.seq_model.specs.declared.calls.Call.TheVariants.{NewObject, NewArray, Retain, Release, SetParameter, UnsetAll, Commit, MapArray, UnmapArray, MapParameterArray, UnmapParameterArray, RenderFrame, FrameReady, DiscardFrame, MapFrame, UnmapFrame, GetProperty, Subtypes, ObjectInfo, ParameterInfo}
use Rattle.seq_model.specs.declared.calls.Entry.{Entry}
use Rattle.seq_model.specs.declared.calls.Entry.TheVariants.{Called, Finished, Left, Closed}
use Rattle.seq_model.specs.declared.calls.Reply.TheVariants as reply

-- caller 0 makes some call that is done, and one that is refused
abbrev pub done : Call → Entry
done call = Called 0 call reply.Done

abbrev pub denied : Call → Refused → Entry
denied call refused = Called 0 call (reply.Denied refused)

-- it makes an object, sets, commits, releases
abbrev pub new : DataType → List ℕ → ℕ → Entry
new t subtype h = Called 0 (NewObject t subtype) (reply.Made h)

abbrev pub set : ℕ → List ℕ → Value → Entry
set h name v = done (SetParameter h name v)

abbrev pub commit : ℕ → Entry
commit h = done (Commit h)

abbrev pub release : ℕ → Entry
release h = done (Release h)

abbrev pub xyz : ℤ → ℤ → ℤ → Value
xyz x y z = ScalarVec3 (x ∷ y ∷ z ∷ [])

-- the positions of the triangle, as bytes
abbrev pub triangle_bytes : List ℕ
triangle_bytes = flat_map bytes_of
    (xyz (negsuc 131071) (negsuc 131071) (pos 0) ∷ xyz (pos 131072) (negsuc 131071) (pos 0) ∷ xyz (negsuc 131071) (pos 131072) (pos 0) ∷ [])

-- the elements of its array of surfaces, as bytes
abbrev pub surface_bytes : List ℕ
surface_bytes = bytes_of (Object ty.Surface 4)

-- all up to the commit of the frame
unfoldable pub triangle_made : History
triangle_made =
    Called 0 (NewArray ty.ScalarVec3 3 12 (Captured 7) triangle_bytes) (reply.Made 1) ∷
    new ty.Geometry (codes "triangle") 2 ∷
    set 2 (codes "vertex.position") (Object ty.Array1D 1) ∷
    commit 2 ∷
    new ty.Material (codes "matte") 3 ∷
    set 3 (codes "color") (xyz (pos 65536) (pos 0) (pos 0)) ∷
    commit 3 ∷
    new ty.Surface (codes "default") 4 ∷
    set 4 (codes "geometry") (Object ty.Geometry 2) ∷
    set 4 (codes "material") (Object ty.Material 3) ∷
    commit 4 ∷
    Called 0 (NewArray ty.Surface 1 8 (Captured 8) surface_bytes) (reply.Made 5) ∷
    new ty.World (codes "default") 6 ∷
    set 6 (codes "surface") (Object ty.Array1D 5) ∷
    commit 6 ∷
    new ty.Camera (codes "orthographic") 7 ∷
    set 7 (codes "position") (xyz (pos 0) (pos 0) (pos 65536)) ∷
    set 7 (codes "height") (Scalar (pos 262144)) ∷
    commit 7 ∷
    new ty.Renderer (codes "default") 8 ∷
    new ty.Frame (codes "default") 9 ∷
    set 9 (codes "world") (Object ty.World 6) ∷
    set 9 (codes "camera") (Object ty.Camera 7) ∷
    set 9 (codes "renderer") (Object ty.Renderer 8) ∷
    set 9 (codes "size") (Uint32Vec2 (4 ∷ 4 ∷ [])) ∷
    set 9 (codes "channel.color") (TypeName ty.Ufixed8Vec4) ∷
    commit 9 ∷ []

-- a pixel that a surface of one colour covers, and one that shows the background, which lets all through
abbrev red : List ℕ
red = 255 ∷ 0 ∷ 0 ∷ 255 ∷ []

abbrev green : List ℕ
green = 0 ∷ 255 ∷ 0 ∷ 255 ∷ []

abbrev clear : List ℕ
clear = 0 ∷ 0 ∷ 0 ∷ 0 ∷ []

-- the picture of the triangle in a colour, by rows from the lowest up
abbrev pub triangle_rows : List ℕ → List ℕ
triangle_rows c =
    c ++ c ++ c ++ c ++
    c ++ c ++ c ++ clear ++
    c ++ c ++ clear ++ clear ++
    c ++ clear ++ clear ++ clear

-- the frame's colours are mapped
abbrev pub shows : List ℕ → Entry
shows c = Called 0 (MapFrame 9 Color) (reply.Mapped 4 4 ty.Ufixed8Vec4 (triangle_rows c))

-- the frame is rendered, awaited, mapped and unmapped
abbrev pub shown_once : History
shown_once =
    done (RenderFrame 9) ∷
    Finished 28 ∷
    Called 0 (FrameReady 9 true) reply.Ready ∷
    shows red ∷
    done (UnmapFrame 9 31) ∷ []

-- the triangle is shown, and the device is closed
unfoldable pub triangle_history : History
triangle_history = triangle_made ++ shown_once ++ Closed ∷ []

-- the application lets go of all but the world, which then holds what it needs
unfoldable pub all_but_the_world : History
all_but_the_world =
    triangle_made ++ release 2 ∷ release 1 ∷ release 3 ∷ release 4 ∷ release 5 ∷ release 8 ∷ release 7 ∷ release 9 ∷ []

-- and of the world
unfoldable pub last_holder : History
last_holder = all_but_the_world ++ release 6 ∷ []

-- during a flight the frame forgets its parameters and all but the frame is released
unfoldable pub released_in_flight : History
released_in_flight =
    triangle_made ++ done (RenderFrame 9) ∷ done (UnsetAll 9) ∷ done (Commit 9) ∷
    release 1 ∷ release 2 ∷ release 3 ∷ release 4 ∷ release 5 ∷ release 6 ∷ release 7 ∷ release 8 ∷ []

-- the flight ends, and its picture is shown
unfoldable pub ended_after_release : History
ended_after_release = released_in_flight ++ Finished 28 ∷ shows red ∷ []

-- another colour is set
abbrev pub set_green : Entry
set_green = set 3 (codes "color") (xyz (pos 0) (pos 65536) (pos 0))

-- what is set shows only once it is committed
unfoldable pub set_is_not_commit : History
set_is_not_commit =
    triangle_made ++ shown_once ++
    set_green ∷ done (RenderFrame 9) ∷ Finished 34 ∷ shows red ∷ done (UnmapFrame 9 36) ∷
    commit 3 ∷ done (RenderFrame 9) ∷ Finished 39 ∷ shows green ∷ []

-- what is committed during a flight does not show in it
unfoldable pub commit_during_a_flight : History
commit_during_a_flight = triangle_made ++ done (RenderFrame 9) ∷ set_green ∷ commit 3 ∷ Finished 28 ∷ shows red ∷ []

-- a mapped array is not rendered
unfoldable pub render_while_mapped : History
render_while_mapped =
    triangle_made ++
    Called 0 (MapArray 1) (reply.Lent 28) ∷
    denied (MapArray 1) (ArrayMapped 1) ∷
    denied (RenderFrame 9) (ArrayMapped 1) ∷
    done (UnmapArray 1 28 triangle_bytes) ∷
    done (RenderFrame 9) ∷ []

-- an object that the application let go of is not held any more; one that nothing holds is gone
unfoldable pub released_twice : History
released_twice =
    triangle_made ++ release 1 ∷ denied (Release 1) (NotHeld 1) ∷
    new ty.Camera (codes "perspective") 10 ∷ release 10 ∷ denied (Retain 10) (BadHandle 10) ∷ denied (Release 0) (BadHandle 0) ∷ []

-- a frame of two tiles is discarded after one was seen finished: it leaves, and has no picture
unfoldable pub discarded : History
discarded =
    triangle_made ++
    set 9 (codes "size") (Uint32Vec2 (32 ∷ 16 ∷ [])) ∷ commit 9 ∷ done (RenderFrame 9) ∷
    Called 0 (FrameReady 9 false) (reply.NotReady 1 2) ∷
    denied (MapFrame 9 Color) (InFlight 1 2) ∷
    done (DiscardFrame 9) ∷ Left 30 ∷
    denied (MapFrame 9 Color) NoPicture ∷ []

-- a new array is written for a parameter of a geometry that the application lets go of meanwhile: both die where it comes back
unfoldable pub parameter_array_dies : History
parameter_array_dies =
    new ty.Geometry (codes "triangle") 1 ∷
    Called 0 (MapParameterArray 1 (codes "vertex.position") ty.ScalarVec3 3) (reply.Lent 2) ∷
    release 1 ∷
    Called 0 (UnmapParameterArray 1 (codes "vertex.position") 2 triangle_bytes) (reply.Made 2) ∷
    denied (Commit 1) (BadHandle 1) ∷ []

-- an array of two surfaces is lent
unfoldable pub surfaces_lent : History
surfaces_lent = Called 0 (NewArray ty.Surface 2 8 Managed []) (reply.Made 1) ∷ Called 0 (MapArray 1) (reply.Lent 2) ∷ []

-- an element that names nothing, and the first half of one that names an object which is not there
abbrev pub one_and_a_half : List ℕ
one_and_a_half = 0 ∷ 0 ∷ 0 ∷ 0 ∷ 0 ∷ 0 ∷ 0 ∷ 0 ∷ 9 ∷ 0 ∷ 0 ∷ 0 ∷ []

-- they come back with 12 bytes for their 16, which are entered as they are and refused; then with all, of which nothing stays that names what
-- is not there
unfoldable pub half_back_then_all : History
half_back_then_all = surfaces_lent ++ denied (UnmapArray 1 2 one_and_a_half) NotMapped ∷ done (UnmapArray 1 2 (zeros 16)) ∷ []

-- three objects are made
unfoldable pub three_made : History
three_made = new ty.World (codes "default") 1 ∷ new ty.World (codes "default") 2 ∷ new ty.World (codes "default") 3 ∷ []

-- calls after the triangle was made, each with its refusal, if one applies
unfoldable pub asked_then : List (Call × Option Refused)
asked_then =
    (NewObject ty.Camera (codes "omnidirectional"), Some BadSubtype) ∷
    (SetParameter 7 (codes "height") (Uint32 3), Some BadType) ∷
    (SetParameter 6 (codes "volume") (Object ty.Array1D 5), Some UnknownObjectParameter) ∷
    (NewArray ty.ScalarVec3 1 11 Managed [], Some BadShape) ∷
    (RenderFrame 7, Some (WrongKind 7)) ∷
    (SetParameter 4 (codes "geometry") (Object ty.Geometry 3), Some (WrongKind 3)) ∷
    (SetParameter 4 (codes "geometry") (Object ty.Geometry 0), Some (BadHandle 0)) ∷
    (SetParameter 2 (codes "vertex.position") (Object ty.Array1D 5), Some BadType) ∷
    (SetParameter 2 (codes "vertex.position") (Object ty.Scalar 5), Some BadType) ∷
    (SetParameter 2 (codes "foo") (Object ty.Scalar 5), Some BadType) ∷
    (SetParameter 2 (codes "foo") (Object ty.Array1D 5), Some UnknownObjectParameter) ∷
    (SetParameter 2 (codes "foo") (Uint32 5), None) ∷
    (SetParameter 1 (codes "foo") (Uint32 5), None) ∷
    (MapFrame 9 Color, Some NoPicture) ∷
    (FrameReady 9 true, Some NoPicture) ∷
    (DiscardFrame 9, None) ∷
    (GetProperty 6 (codes "foo"), Some NoSuchName) ∷
    (GetProperty 0 (codes "version"), None) ∷
    (GetProperty 0 (codes "bounds"), Some NoSuchName) ∷
    (GetProperty 10 (codes "version"), Some (BadHandle 10)) ∷
    (GetProperty 9 (codes "renderProgress"), None) ∷
    (Subtypes ty.Array1D, Some NoSuchName) ∷
    (Subtypes ty.Uint32, Some NoSuchName) ∷
    (ObjectInfo ty.Array1D (codes "default"), Some BadSubtype) ∷
    (ParameterInfo ty.Camera (codes "orthographic") (codes "tanHalfFovy"), Some NoSuchName) ∷
    (MapParameterArray 4 (codes "geometry") ty.Scalar 1, Some BadType) ∷
    (MapParameterArray 7 (codes "foo") ty.Scalar 1, Some UnknownObjectParameter) ∷
    (MapParameterArray 7 (codes "foo") ty.Str 1, Some BadType) ∷
    (MapParameterArray 2 (codes "vertex.position") ty.ScalarVec3 33554432, Some BadShape) ∷
    (UnmapArray 1 5 [], Some NotMapped) ∷
    (UnmapFrame 9 3, Some NotMapped) ∷
    (MapArray 2, Some (WrongKind 2)) ∷
    (NewArray ty.Array1D 1 8 Managed [], Some BadType) ∷
    (NewArray ty.Surface 2 8 (Captured 1) (bytes_of (Object ty.Surface 3) ++ bytes_of (Object ty.Surface 77)), Some (BadHandle 77)) ∷
    (NewArray ty.Surface 2 8 (Captured 1) (bytes_of (Object ty.Surface 0) ++ bytes_of (Object ty.Surface 3)), Some (WrongKind 3)) ∷
    (NewArray ty.Surface 0 8 (Captured 1) (bytes_of (Object ty.Surface 77)), None) ∷
    (NewArray ty.Surface 2 8 Managed [], None) ∷ []
