-- The keywords of the code as the machine has them.
use Rattle.rhai_machine.specs.language.Frames as machine
use Rattle.rhai_call_forms.specs.declared.keywords.Keyword.{Keyword}
use Rattle.rhai_call_forms.specs.declared.keywords.Keyword.TheVariants as code

-- a keyword of the code, in the machine's words
abbrev pub word_of : Keyword → machine.Keyword
word_of code.CallPointer = machine.CallPointer
word_of code.MakePointer = machine.MakePointer
word_of code.Curry = machine.Curry
word_of code.IsShared = machine.IsShared
word_of code.IsDefinedVariable = machine.IsDefinedVariable
