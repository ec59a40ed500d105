-- The value of a type that has one.
use Rattle.sc_memory.specs.declared.memory.NoMemory.{NoMemory}

-- the want of memory
abbrev pub no_memory : NoMemory
no_memory = record {}
