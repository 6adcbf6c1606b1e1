-- What contracts see of a loan that may be written: its elements, and the reference that it holds.
use Rattle.std.specs.Borrow.{GName}
use Rattle.byte_view.specs.Elements.{Elements}
use Rattle.byte_view.specs.declared.writes.StridedMut.{StridedMut}

-- the elements, as they stand in the block now
abbrev pub elements : StridedMut → Elements
elements s = record { ty = s.ty; stride = s.stride; count = s.count; bytes = s.bytes.now }

-- which borrow of the block the loan holds
abbrev pub borrow_of : StridedMut → GName
borrow_of s = s.bytes.ghost_name
