-- By whether it has elements.
use mathlib.Core.Path.{sym, ◌∙◌}
use Rattle.message.proofs.RangeLaws.{writable-elements, writable-fields}
use Rattle.writer.proofs.put_behind.Goals as goal

pub put_elements-requires : goal.put_elements-requires
put_elements-requires c = let h = sym c.has_elements.ensures ∙ c.if-has_elements.true in (writable-elements _ c.requires.0 h, rw h at c.requires.1)

pub put_fields-requires : goal.put_fields-requires
put_fields-requires c = let h = sym c.has_elements.ensures ∙ c.if-has_elements.false in (writable-fields _ c.requires.0 h, rw h at c.requires.1)
