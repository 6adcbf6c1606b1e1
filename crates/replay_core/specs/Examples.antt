-- The triangle's trace.
use Rattle.std.specs.Prelude.{ℕ, pos, List, [], ◌∷◌, codes, true}
use Rattle.dev_types.specs.declared.data_types.DataType.{DataType}
use Rattle.dev_types.specs.declared.data_types.DataType.TheVariants as ty
use Rattle.dev_types.specs.declared.handles.Channel.TheVariants.{Color}
use Rattle.dev_types.specs.declared.handles.Origin.TheVariants.{Captured}
use Rattle.dev_types.specs.declared.values.Value.{Value}
use Rattle.dev_types.specs.declared.values.Value.TheVariants.{Scalar, TypeName, Uint32Vec2}
use Rattle.seq_model.specs.Examples.{triangle_bytes, xyz}
use Rattle.trace_text.specs.declared.calls.ArrayData.TheVariants.{Values, Objects}
use Rattle.trace_text.specs.declared.calls.SetValue.TheVariants.{Plain, Object}
use Rattle.trace_text.specs.declared.calls.Trace.{Trace}
use Rattle.trace_text.specs.declared.calls.TraceCall.{TraceCall}
use Rattle.trace_text.specs.declared.calls.TraceCall.TheVariants.{New, NewArray, Set, Commit, WithFrame, EndLoan, Render, Ready}

-- sets a plain value, and an object
abbrev set : List ℕ → List ℕ → Value → TraceCall
set object name v = Set object name (Plain v)

abbrev set_object : List ℕ → List ℕ → DataType → List ℕ → TraceCall
set_object object name t label = Set object name (Object t label)

-- one caller makes the triangle, renders it and maps its picture
unfoldable pub triangle_trace : Trace
triangle_trace = record {
  phases = record {
    callers = record {
      calls =
          NewArray (codes "p") ty.ScalarVec3 3 12 (Captured 7) (Values triangle_bytes) ∷
          New (codes "g") ty.Geometry (codes "triangle") ∷
          set_object (codes "g") (codes "vertex.position") ty.Array1D (codes "p") ∷
          Commit (codes "g") ∷
          New (codes "m") ty.Material (codes "matte") ∷
          set (codes "m") (codes "color") (xyz (pos 65536) (pos 0) (pos 0)) ∷
          Commit (codes "m") ∷
          New (codes "s") ty.Surface (codes "default") ∷
          set_object (codes "s") (codes "geometry") ty.Geometry (codes "g") ∷
          set_object (codes "s") (codes "material") ty.Material (codes "m") ∷
          Commit (codes "s") ∷
          NewArray (codes "l") ty.Surface 1 8 (Captured 8) (Objects (codes "s" ∷ [])) ∷
          New (codes "w") ty.World (codes "default") ∷
          set_object (codes "w") (codes "surface") ty.Array1D (codes "l") ∷
          Commit (codes "w") ∷
          New (codes "c") ty.Camera (codes "orthographic") ∷
          set (codes "c") (codes "position") (xyz (pos 0) (pos 0) (pos 65536)) ∷
          set (codes "c") (codes "height") (Scalar (pos 262144)) ∷
          Commit (codes "c") ∷
          New (codes "r") ty.Renderer (codes "default") ∷
          New (codes "f") ty.Frame (codes "default") ∷
          set_object (codes "f") (codes "world") ty.World (codes "w") ∷
          set_object (codes "f") (codes "camera") ty.Camera (codes "c") ∷
          set_object (codes "f") (codes "renderer") ty.Renderer (codes "r") ∷
          set (codes "f") (codes "size") (Uint32Vec2 (4 ∷ 4 ∷ [])) ∷
          set (codes "f") (codes "channel.color") (TypeName ty.Ufixed8Vec4) ∷
          Commit (codes "f") ∷
          Render (codes "f") ∷
          Ready (codes "f") true ∷
          WithFrame (codes "f") Color ∷
          EndLoan ∷ [];
    } ∷ [];
  } ∷ [];
}
