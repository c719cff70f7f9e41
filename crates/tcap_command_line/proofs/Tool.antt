-- The command line as a simple command, and the faults of its parse.
use Rattle.std.proofs.Common.{◌≡◌, inl, inr, refl, true}
use Rattle.clap.proofs.OnLiterals.{clap_on_literals}
use Rattle.clap.specs.Kinds.{HasKind, Kinds}
use Rattle.clap.specs.Faults.{is_simple_and_free}
use Rattle.clap.specs.Simple.{is_simple}
use Rattle.clap.specs.Values.{kind_of}
use Rattle.clap.specs.declared.error.Error.{Error}
use Rattle.clap.specs.declared.error.kind.ErrorKind.TheVariants as kind
use Rattle.tcap_command_line.specs.CommandLine.{tool}
use Rattle.tcap_command_line.specs.Words.{Becomes, IsFaultOf, IsMemory}
use Rattle.tcap_command_line.specs.declared.words.WordsFault.{WordsFault}
use Rattle.tcap_command_line.specs.declared.words.WordsFault.TheVariants.{Words, Memory}

pub tool_simple : is_simple_and_free tool ≡ true
unfolding tool clap_on_literals
tool_simple = refl

pub tool_is_simple : is_simple tool ≡ true
unfolding tool clap_on_literals
tool_is_simple = refl

-- an error of clap for lack of memory becomes `Memory`
pub became_memory : (e : Error) (f : WordsFault) → kind_of e ≡ kind.OutOfMemory → Becomes e f → IsMemory f
became_memory e Memory is b = tt
became_memory e (Words x) is b = absurd (b.1 is)

-- any error of clap becomes a fault of one of these kinds, or `Memory`
pub as_fault : (kinds : Kinds) (e : Error) (f : WordsFault) → HasKind kinds e → Becomes e f → IsFaultOf kinds f
as_fault kinds e Memory has b = tt
as_fault kinds e (Words x) (inl memory) b = absurd (b.1 memory)
as_fault kinds e (Words x) (inr among) b = rw b.0 among
