use Rattle.dev_types.proofs.TextFacts.{text_is_utf8}
use Rattle.dev_types.proofs.texts.Text.as_str.Goals as goal

pub from_utf8_unchecked-requires : goal.from_utf8_unchecked-requires
from_utf8_unchecked-requires c = rw c.as_slice-bytes.ensures.value (text_is_utf8 _ c.self.invariant)
