-- Which question about a header a fault answers with no.
use Rattle.race_model.specs.Prelude.{HeaderTest, long_enough, magic, version, bound, record_bytes, reserved}
use Rattle.race_model.specs.Prelude.{exact_length}
use Rattle.race_model.specs.Headers.{count}
use Rattle.db_layout.specs.declared.header.HeaderFault.{HeaderFault}
use Rattle.db_layout.specs.declared.header.HeaderFault.TheVariants.{TooShort, BadMagic, BadVersion, BadBound, BadCount}
use Rattle.db_layout.specs.declared.header.HeaderFault.TheVariants.{BadRecordBytes, BadReserved, BadLength}

-- the question about a header that this fault answers with no
abbrev pub test_of : HeaderFault → HeaderTest
test_of TooShort = long_enough
test_of BadMagic = magic
test_of BadVersion = version
test_of BadBound = bound
test_of BadCount = count
test_of BadRecordBytes = record_bytes
test_of BadReserved = reserved
test_of BadLength = exact_length
