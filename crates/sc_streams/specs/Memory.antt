-- What the sources and sinks in memory hold.
use Rattle.std.specs.Prelude.{ℕ, ◌-◌, List, drop, length}
use Rattle.sc_streams.specs.declared.memory.PlainSource.{PlainSource}
use Rattle.sc_streams.specs.declared.memory.MemSource.{MemSource}
use Rattle.sc_streams.specs.declared.memory.MemSink.{MemSink}

-- ---- sources

-- the bytes that a plain source has left
abbrev pub plain_left : PlainSource → List ℕ
plain_left s = drop s.at s.bytes.items

-- the bytes that a source in memory has left
abbrev pub source_left : MemSource → List ℕ
source_left s = plain_left s.plain

-- the calls that are to fail, counted from 0
abbrev pub source_fails : MemSource → List ℕ
source_fails s = s.fails.items

-- how often it was called, which is the number of its next call
abbrev pub source_calls : MemSource → ℕ
source_calls s = s.calls

-- how often it has failed
abbrev pub source_faults : MemSource → ℕ
source_faults s = s.faults

-- ---- sinks

-- the bytes that a sink in memory took
abbrev pub sink_bytes : MemSink → List ℕ
sink_bytes s = s.bytes.items

-- how many bytes it takes in all
abbrev pub sink_capacity : MemSink → ℕ
sink_capacity s = s.capacity

-- how many more bytes it takes
abbrev pub sink_room : MemSink → ℕ
sink_room s = s.capacity - length s.bytes.items

-- the calls that are to fail, counted from 0
abbrev pub sink_fails : MemSink → List ℕ
sink_fails s = s.fails.items

-- how often it was called, which is the number of its next call
abbrev pub sink_calls : MemSink → ℕ
sink_calls s = s.calls

-- how often it has failed
abbrev pub sink_faults : MemSink → ℕ
sink_faults s = s.faults
