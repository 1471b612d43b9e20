use Rattle.std.proofs.lemmas.Bool.Decides.{Decides-ltb}
use Rattle.rhai_values.specs.declared.base.value.Union.TheVariants.{outs-Int, outs-Str, outs-Blob}
use Rattle.rhai_places.proofs.part.is_part.Goals as goal

pub returns-in-Int-Bit : goal.returns-in-Int-Bit
returns-in-Int-Bit g c = rw (c.in-Int-Bit.is-1, c.in-Int-Bit.is-0, outs-Int) (Decides-ltb c.in-Int-Bit.at 64)

pub returns-in-Str-Char : goal.returns-in-Str-Char
returns-in-Str-Char g c =
    rw (c.in-Str-Char.is-1, c.in-Str-Char.is-0, outs-Str, c.char_count.ensures, c.as_str.ensures, c.get.ensures)
    (Decides-ltb c.in-Str-Char.at _)

pub returns-in-Blob-Byte : goal.returns-in-Blob-Byte
returns-in-Blob-Byte g c =
    rw (c.in-Blob-Byte.is-1, c.in-Blob-Byte.is-0, outs-Blob, c.len.ensures, c.get-in-Blob-Byte.ensures) (Decides-ltb c.in-Blob-Byte.at _)
