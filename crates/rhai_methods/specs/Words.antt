-- The words of the code as the machine has them.
use Rattle.rhai_machine.specs.language.Methods as machine
use Rattle.rhai_methods.specs.declared.words.MethodWord.{MethodWord}
use Rattle.rhai_methods.specs.declared.words.MethodWord.TheVariants as code

-- a method's word of the code, in the machine's words
abbrev pub machine_word : MethodWord → machine.MethodWord
machine_word code.Call = machine.CallWord
machine_word code.Curry = machine.CurryWord
machine_word code.Shared = machine.SharedWord
machine_word code.Plain = machine.PlainWord
