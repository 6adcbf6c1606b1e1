use Rattle.std.proofs.Common.{◌≡◌, take}
use Rattle.std.specs.List.{flat_map}
use Rattle.report_text.specs.Reports.{image_of}
use Rattle.report_text.proofs.images.images_of.Given as goal

-- the images of the first i entries are written
abbrev pub invariant-entries : goal.invariant-entries
invariant-entries l = l.bytes.items ≡ flat_map image_of (take l.i l.history)
