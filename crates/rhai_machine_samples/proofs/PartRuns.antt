-- The sample runs of methods in chains, and of parts.
use Rattle.std.proofs.Common.{refl}
use Rattle.std.specs.Prelude.{◌≡◌, ℕ, true, false, List, [], ◌∷◌, Some, None, codes, pos}
use Rattle.std.specs.Str.{chars, encode_utf8_all}
use lib.Utf8.{encode}
use Rattle.rhai_spots.specs.Bits.{digits, bits, bit, with_bit}
use Rattle.rhai_errors.specs.Native.{Request}
use Rattle.rhai_values.specs.declared.base.value.FnPtr.{out-roll-FnPtr}
use Rattle.rhai_values.specs.declared.base.value.Union.TheVariants as kind
use Rattle.rhai_machine.specs.Types.{Dynamic, Expr}
use Rattle.rhai_machine.specs.machine.Machine.{Config}
use Rattle.rhai_machine.specs.language.Frames.{Core, Temporary, Walk}
use Rattle.rhai_machine_samples.specs.Trees.{int, var}
use Rattle.rhai_machine_samples.specs.Runs.{Table, integer, truth}
use Rattle.rhai_machine_samples.specs.Data.{word}
use Rattle.rhai_machine_samples.specs.Handles.{handle}
use Rattle.rhai_machine_samples.specs.Items.{array, dot}
use Rattle.rhai_machine_samples.specs.Parts.{MethodChains, Parts, asked, char, fixed_text, m_of, m_of_first, method_call, n_of_m}
use Rattle.rhai_machine_samples.specs.Parts.{call_of_handle, f_of_handle, handle_map, handle_pointer, p_of_handle, part_by}
use Rattle.rhai_machine_samples.proofs.SampleRuns.{by_steps, stretch}
use Rattle.rhai_machine_samples.proofs.ChainRuns.{chained, asks, reads, sets, walks_in, new_at, below, on_x, on_its_way}

-- two texts, and a bit of two integers
ab_chars : chars (codes "ab") ≡ 97 ∷ 98 ∷ []
unfolding chars
ab_chars = refl

xb_text : encode_utf8_all (120 ∷ 98 ∷ []) ≡ codes "xb"
unfolding encode
xb_text = refl

bit_of_two : bit (pos 2) 1 ≡ true
unfolding digits
bit_of_two = refl

two_of_bit : with_bit (pos 0) 1 true ≡ pos 2
unfolding digits
two_of_bit = refl

ruleset parted = (chained, ab_chars, xb_text, bit_of_two, two_of_bit)

ruleset pointed = (chained, kind.outs-Map, kind.outs-FnPtr, out-roll-FnPtr)

module _ {S H : Type 0} (table : Table S H) (host : H → List ℕ) where
  -- the chain of a method of an item has its index
  abbrev m_asks : List ℕ → Dynamic H → Config S H (Core H)
  m_asks name v = asks table name v (m_of_first name) (dot 5 (int 3 0) (method_call 6 (codes "m") [])) None (integer 0 ∷ []) (below 2) 4

  abbrev m_walks : List ℕ → Dynamic H → Config S H (Core H)
  m_walks name v = reads table name v (m_of_first name) (integer 0 ∷ []) 6

  -- a chain goes on from what a method gave
  abbrev n_walks : Config S H (Core H)
  n_walks = on_x table (integer 1) (integer 7)
      (Walk (on_its_way false (var 1 (codes "x")) (dot 6 (method_call 3 (codes "m") []) (method_call 7 (codes "n") [])) None []))
      (Temporary (Some (integer 2)) None ∷ []) (below 2) 6 (asked (codes "m") (integer 1) 3 ∷ [])

  pub method_chains : MethodChains table host
  method_chains = record {
    called = λ impure replies. stretch _ _ 9 _ (reads table (codes "x") (integer 1) (m_of (codes "x") []) [] 3) (simp chained)
        (by_steps _ _ 20 (simp (impure, replies, chained)) refl);
    with_argument = λ impure replies. stretch _ _ 12 _ (reads table (codes "x") (integer 1) (m_of (codes "x") (int 5 4 ∷ []))
        (integer 4 ∷ []) 5) (simp chained)
        (by_steps _ _ 20 (simp (impure, replies, chained)) refl);
    goes_on = λ impure n_impure replies n_replies. stretch _ _ 11 _ (reads table (codes "x") (integer 1) n_of_m [] 5) (simp chained)
        (stretch _ _ 6 _ n_walks (simp (impure, replies, chained)) (by_steps _ _ 20 (simp (n_impure, n_replies, chained)) refl));
    of_item = λ impure replies. stretch _ _ 10 _ (m_asks (codes "a") (array (integer 1 ∷ []))) (simp chained)
        (stretch _ _ 3 _ (m_walks (codes "a") (array (integer 1 ∷ []))) (simp chained)
        (by_steps _ _ 20 (simp (impure, replies, chained)) refl));
    cut = stretch _ _ 10 _ (m_asks (codes "a") (array (integer 1 ∷ []))) (simp chained)
        (stretch _ _ 3 _ (m_walks (codes "a") (array (integer 1 ∷ []))) (simp chained)
        (by_steps _ _ 20 (simp chained) refl));
    shared = stretch _ _ 9 _ (walks_in table host (Some (integer 1)) [] (codes "h") 0 handle (dot 2 (var 1 (codes "h"))
        (method_call 3 (codes "is_shared") [])) None [] (below 2) 3) (simp chained) (by_steps _ _ 12 (simp chained) refl);
    of_handle = λ impure replies. stretch _ _ 9 _ (walks_in table host (Some (integer 1)) [] (codes "h") 0 handle
        (m_of (codes "h") []) None [] (below 2) 3) (simp chained) (by_steps _ _ 20 (simp (impure, replies, chained)) refl);
    own_argument = stretch _ _ 9 _ (walks_in table host (Some handle_pointer) [] (codes "h") 0 handle call_of_handle None [] (below 2) 3)
        (simp pointed) (by_steps _ _ 12 (simp pointed) refl);
    own_entry = stretch _ _ 9 _ (walks_in table host (Some handle_map) [] (codes "h") 0 handle f_of_handle None [] (below 2) 3)
        (simp pointed) (by_steps _ _ 12 (simp pointed) refl);
    property_of_handle = λ replies. stretch _ _ 9 _ (walks_in table host (Some (integer 1)) [] (codes "h") 0 handle p_of_handle None []
        (below 2) 3) (simp chained) (by_steps _ _ 20 (simp (replies, chained)) refl);
  }

  pub parts : Parts table host
  parts = record {
    char_read = stretch _ _ 9 _ (reads table (codes "s") (word (codes "ab")) (part_by (int 3 1)) (integer 1 ∷ []) 3) (simp chained)
        (by_steps _ _ 12 (simp parted) refl);
    char_set = stretch _ _ 10 _ (sets table (codes "s") (word (codes "ab")) (part_by (int 3 0)) (new_at 6 None (char 120))
        (integer 0 ∷ []) 3) (simp chained)
        (by_steps _ _ 15 (simp parted) refl);
    no_char = stretch _ _ 10 _ (sets table (codes "s") (word (codes "ab")) (part_by (int 3 0)) (new_at 6 None (integer 5))
        (integer 0 ∷ []) 3) (simp chained)
        (by_steps _ _ 15 (simp parted) refl);
    constant = stretch _ _ 10 _ (sets table (codes "s") fixed_text (part_by (int 3 0)) (new_at 6 None (char 120)) (integer 0 ∷ []) 3)
        (simp chained)
        (by_steps _ _ 15 (simp parted) refl);
    bit_read = stretch _ _ 9 _ (reads table (codes "s") (integer 2) (part_by (int 3 1)) (integer 1 ∷ []) 3) (simp chained)
        (by_steps _ _ 12 (simp parted) refl);
    bit_set = stretch _ _ 10 _ (sets table (codes "s") (integer 0) (part_by (int 3 1)) (new_at 6 None (truth true)) (integer 1 ∷ []) 3)
        (simp chained)
        (by_steps _ _ 15 (simp parted) refl);
    method = λ impure replies. stretch _ _ 10 _ (m_asks (codes "s") (word (codes "ab"))) (simp chained)
        (stretch _ _ 3 _ (m_walks (codes "s") (word (codes "ab"))) (simp chained)
        (by_steps _ _ 20 (simp (impure, replies, parted)) refl));
    pure_method = λ pure replies. stretch _ _ 10 _ (m_asks (codes "s") (word (codes "ab"))) (simp chained)
        (stretch _ _ 3 _ (m_walks (codes "s") (word (codes "ab"))) (simp chained)
        (by_steps _ _ 20 (simp (pure, replies, parted)) refl));
    lost_char = λ impure replies. stretch _ _ 10 _ (m_asks (codes "s") (word (codes "ab"))) (simp chained)
        (stretch _ _ 3 _ (m_walks (codes "s") (word (codes "ab"))) (simp chained)
        (by_steps _ _ 20 (simp (impure, replies, parted)) refl));
  }
