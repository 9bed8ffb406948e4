use Rattle.gmch.proofs.Choice.{tests}
use Rattle.gmch.specs.Config.{merge}
use Rattle.config.specs.Word.{new_in}
use Rattle.config.proofs.Bytes.{bits_of_bytes}
use Rattle.config.proofs.access.new_byte.Goals as goal

pub smram_written-requires : goal.smram_written-requires
smram_written-requires c = tt

pub returns-then-x-eq112 : goal.returns-then-x-eq112
returns-then-x-eq112 c = unfold new_in in search (tests, ← c.smram_written.ensures)

pub returns : goal.returns
returns c = unfold new_in merge in rw bits_of_bytes (search tests)
