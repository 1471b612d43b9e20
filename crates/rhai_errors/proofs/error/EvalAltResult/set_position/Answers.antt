-- each arm writes the position into the error's own fields
use Rattle.std.proofs.Common.{rules}
use Rattle.rhai_errors.specs.declared.error.EvalAltResult.TheViews.{the_lemmas}
use Rattle.rhai_errors.proofs.error.EvalAltResult.set_position.Goals as goal

pub returns-in-ErrorVariableExists : goal.returns-in-ErrorVariableExists
returns-in-ErrorVariableExists g c = search (rules, the_lemmas)

pub returns-in-ErrorVariableNotFound : goal.returns-in-ErrorVariableNotFound
returns-in-ErrorVariableNotFound g c = search (rules, the_lemmas)

pub returns-in-ErrorModuleNotFound : goal.returns-in-ErrorModuleNotFound
returns-in-ErrorModuleNotFound g c = search (rules, the_lemmas)

pub returns-in-ErrorFunctionNotFound : goal.returns-in-ErrorFunctionNotFound
returns-in-ErrorFunctionNotFound g c = search (rules, the_lemmas)

pub returns-in-ErrorInFunctionCall : goal.returns-in-ErrorInFunctionCall
returns-in-ErrorInFunctionCall g c = search (rules, the_lemmas)

pub returns-in-ErrorUnboundThis : goal.returns-in-ErrorUnboundThis
returns-in-ErrorUnboundThis g c = search (rules, the_lemmas)

pub returns-in-ErrorMismatchDataType : goal.returns-in-ErrorMismatchDataType
returns-in-ErrorMismatchDataType g c = search (rules, the_lemmas)

pub returns-in-ErrorArrayBounds : goal.returns-in-ErrorArrayBounds
returns-in-ErrorArrayBounds g c = search (rules, the_lemmas)

pub returns-in-ErrorStringBounds : goal.returns-in-ErrorStringBounds
returns-in-ErrorStringBounds g c = search (rules, the_lemmas)

pub returns-in-ErrorBitFieldBounds : goal.returns-in-ErrorBitFieldBounds
returns-in-ErrorBitFieldBounds g c = search (rules, the_lemmas)

pub returns-in-ErrorIndexingType : goal.returns-in-ErrorIndexingType
returns-in-ErrorIndexingType g c = search (rules, the_lemmas)

pub returns-in-ErrorPropertyNotFound : goal.returns-in-ErrorPropertyNotFound
returns-in-ErrorPropertyNotFound g c = search (rules, the_lemmas)

pub returns-in-ErrorFor : goal.returns-in-ErrorFor
returns-in-ErrorFor g c = search (rules, the_lemmas)

pub returns-in-ErrorDataRace : goal.returns-in-ErrorDataRace
returns-in-ErrorDataRace g c = search (rules, the_lemmas)

pub returns-in-ErrorAssignmentToConstant : goal.returns-in-ErrorAssignmentToConstant
returns-in-ErrorAssignmentToConstant g c = search (rules, the_lemmas)

pub returns-in-ErrorDotExpr : goal.returns-in-ErrorDotExpr
returns-in-ErrorDotExpr g c = search (rules, the_lemmas)

pub returns-in-ErrorArithmetic : goal.returns-in-ErrorArithmetic
returns-in-ErrorArithmetic g c = search (rules, the_lemmas)

pub returns-in-ErrorRuntime : goal.returns-in-ErrorRuntime
returns-in-ErrorRuntime g c = search (rules, the_lemmas)

pub returns-in-ErrorNonPureMethodCallOnConstant : goal.returns-in-ErrorNonPureMethodCallOnConstant
returns-in-ErrorNonPureMethodCallOnConstant g c = search (rules, the_lemmas)

pub returns-in-ErrorTooManyOperations : goal.returns-in-ErrorTooManyOperations
returns-in-ErrorTooManyOperations g c = search (rules, the_lemmas)

pub returns-in-ErrorTooManyVariables : goal.returns-in-ErrorTooManyVariables
returns-in-ErrorTooManyVariables g c = search (rules, the_lemmas)

pub returns-in-ErrorTooManyModules : goal.returns-in-ErrorTooManyModules
returns-in-ErrorTooManyModules g c = search (rules, the_lemmas)

pub returns-in-ErrorStackOverflow : goal.returns-in-ErrorStackOverflow
returns-in-ErrorStackOverflow g c = search (rules, the_lemmas)

pub returns-in-ErrorDataTooLarge : goal.returns-in-ErrorDataTooLarge
returns-in-ErrorDataTooLarge g c = search (rules, the_lemmas)

pub returns-in-ErrorOutOfMemory : goal.returns-in-ErrorOutOfMemory
returns-in-ErrorOutOfMemory g c = search (rules, the_lemmas)

pub returns-in-Exit : goal.returns-in-Exit
returns-in-Exit g c = search (rules, the_lemmas)

pub returns-in-Return : goal.returns-in-Return
returns-in-Return g c = search (rules, the_lemmas)

pub returns-in-LoopBreak : goal.returns-in-LoopBreak
returns-in-LoopBreak g c = search (rules, the_lemmas)
