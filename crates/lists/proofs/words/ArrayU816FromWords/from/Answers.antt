-- The library's bytes of the two words are the definition's, the high word's behind the low one's.
use Rattle.std.proofs.Common.{◌∙◌}
use Rattle.lists.specs.Words.{octets, bytes_of}
use Rattle.lists.proofs.WordsLaws.{to-le-octets}
use Rattle.lists.proofs.words.ArrayU816FromWords.from.Goals as goal

pub returns : goal.returns
unfolding bytes_of octets
returns c =
    rw (
      c.copy_from_slice.ensures.after ∙ c.to_le_bytes.ensures ∙ to-le-octets c.args.words.low,
      c.copy_from_slice-2.ensures.after ∙ c.to_le_bytes-2.ensures ∙ to-le-octets c.args.words.high,
    )
