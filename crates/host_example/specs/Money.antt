-- What the natives over amounts of money do.
use Rattle.std.specs.Prelude.{◌+◌, ◌-◌, ◌^◌, min, [], ◌∷◌, codes}
use Rattle.std.specs.Option.{option_map}
use Rattle.rhai.specs.Words.{Does, Lists, Response, changes, done, gives, host, hosts_in, impure, pure}
use Rattle.host_example.specs.declared.money.Money.{Money}
use Rattle.host_example.specs.declared.money.MoneyNative.{MoneyNative}
use Rattle.host_example.specs.declared.money.MoneyNative.TheVariants.{Sum, Difference, Growth}

-- the natives by their names, and which of them are pure
abbrev pub listing : Lists MoneyNative
listing = pure (codes "+") Sum ∷ pure (codes "-") Difference ∷ impure (codes "+=") Growth ∷ []

-- the sum of two amounts, or the greatest amount
abbrev pub sum : Money → Money → Money
sum a b = record { 0 = min (a.0 + b.0) (2 ^ 64 - 1) }

-- what each answers for two amounts
abbrev pub answered : MoneyNative → Money → Money → Response Money
answered Sum a b = gives (host (sum a b))
answered Difference a b = gives (host (record { 0 = a.0 - b.0 }))
answered Growth a b = changes (host (sum a b))

-- what each does with its arguments
abbrev pub answering : Does (Unit {0}) MoneyNative Money
answering s native given = option_map (λ pair. done (answered native pair.0 pair.1) s) (hosts_in given)
