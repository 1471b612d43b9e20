-- The names above which the body of a `for` and the branch of a `try` run.
use Rattle.std.proofs.Common.{◌≡◌, ◌+◌, ℕ, Bool, true, false, IsTrue, List, [], ◌∷◌, ◌++◌, Option, Some, None, ap, arith, length, map, refl}
use Rattle.std.proofs.Common.{sym}
use Rattle.std.proofs.Common.{subst, take, if◌then◌else◌, ◌∙◌}
use Rattle.std.proofs.lemmas.List.{append_assoc, append-nil, length-append, length-map, map-append, take_all}
use Rattle.std.specs.Prelude.{IsSomeAnd}
use Rattle.rhai_tree.specs.declared.expr.Expr.{Expr, out-Expr}
use Rattle.rhai_tree.specs.declared.expr.Expr.TheOpen as layer
use Rattle.rhai_tree.specs.declared.expr.Ident.{Ident}
use Rattle.rhai_tree.specs.declared.expr.StmtBlock.{StmtBlock}
use Rattle.rhai_tree.specs.Forms.{catch_name, catch_of, is_unqualified}
use Rattle.rhai_tree.specs.declared.expr.Expr.TheFolds.{fold_out-StmtBlock}
use Rattle.rhai_tree.specs.Frame.{all_resolve, resolves_block, resolves_stmt, turn_names, with_name}
use Rattle.rhai_tree.specs.Reading as walk
use Rattle.rhai_tree.specs.Reading.{sound}
use Rattle.rhai_tree.specs.Layers.{ExprLayer}
use Rattle.rhai_tree.specs.Names.{Begins, Frame, Name, naming, with_variable}
use Rattle.rhai_errors.specs.declared.error.EvalAltResult.{EvalAltResult}
use Rattle.rhai_state.specs.declared.scope.ScopeEntry.{ScopeEntry}
use Rattle.rhai_state.specs.Scope.{name_of}
use Rattle.rhai_machine.specs.language.Tries.{catch_variable}
use Rattle.rhai_steps.specs.Agreement.{Agrees, Leads, Restores, Sight, above, framed, passes}
use Rattle.rhai_steps.proofs.Agreeing.{brings}
use Rattle.rhai_machine.specs.language.Turns.{ForLoop}
use Rattle.rhai_machine.specs.language.Walks.{counters, loop_entries}
use Rattle.rhai_stmt.specs.Branches.{bound}
use Rattle.rhai_eval_steps.proofs.NameLemmas.{names_restored}

-- a block may run where its statements may
pub block_value : (block : StmtBlock) (frame : Frame) →
    resolves_block block frame ≡ (all_resolve (map resolves_stmt block.statements) frame).0
block_value block frame = ap (λ (seen : walk.Seen sound). seen.value frame) (fold_out-StmtBlock (walk.Seen sound) (walk.SeenStmt sound)
    (walk.SeenConditional sound) (walk.SeenCall sound) (walk.SeenEntry sound) (walk.Seen sound) (walk.expr_step sound)
    (walk.stmt_step sound)
    (walk.conditional_step sound) (walk.call_step sound) (walk.entry_step sound) (walk.block_step sound) block)

-- so those of a block that suits suit
pub block_suits : {sight : Sight} {names : List Name} (block : StmtBlock) → Agrees sight names (resolves_block block) →
    Agrees sight names (passes (all_resolve (map resolves_stmt block.statements)))
block_suits block h = brings (λ frame. subst IsTrue (block_value block frame)) h

pub chosen_suits : {sight : Sight} {names : List Name} (holds : Bool) (body branch : StmtBlock) →
    Agrees sight names (resolves_block body) → Agrees sight names (resolves_block branch) →
    Agrees sight names (passes (all_resolve (map resolves_stmt (if holds then body.statements else branch.statements))))
chosen_suits true body branch h other = block_suits body h
chosen_suits false body branch h other = block_suits branch other

-- what holds of a catch variable that is there brings another
pub catches : {A : Type 0} {P Q : A → Type 0} (o : Option A) → ((x : A) → P x → Q x) → IsSomeAnd o P → IsSomeAnd o Q
catches None f h = h
catches (Some x) f h = f x h

-- ---- a `for`

pub turn_count : (variable : Ident) (counter : Option Ident) (names : List Name) →
    length (turn_names variable counter names) ≡ length names + counters counter + 1
turn_count variable None names = omega (arith, length-append names (variable.name ∷ []))
turn_count variable (Some counter) names = omega (
  arith,
  length-append (names ++ counter.name ∷ []) (variable.name ∷ []),
  length-append names (counter.name ∷ []),
)

pub turn_begins : (variable : Ident) (counter : Option Ident) (names after : List Name) → after ≡ turn_names variable counter names →
    Begins names after
turn_begins variable None names after is = (variable.name ∷ [], is)
turn_begins variable (Some counter) names after is =
    (counter.name ∷ variable.name ∷ [], is ∙ append_assoc names (counter.name ∷ []) (variable.name ∷ []))

names_pushed : (H : Type 0) (loop : ForLoop) (counter : Option Ident) (names : List Name) → loop.counter ≡ counter →
    names ++ map name_of (loop_entries {H = H} loop) ≡ turn_names loop.variable loop.counter names
names_pushed H loop None names is = rw is refl
names_pushed H loop (Some counter) names is = rw is (sym (append_assoc names (counter.name ∷ []) (loop.variable.name ∷ [])))

module _ {H : Type 0} where
  -- the names behind its variables
  pub loop_names : (loop : ForLoop) (old new : List (ScopeEntry H)) → new ≡ old ++ loop_entries loop →
      map name_of new ≡ turn_names loop.variable loop.counter (map name_of old)
  loop_names loop old new is = ap (map name_of) is ∙ map-append name_of old (loop_entries loop)
      ∙ names_pushed H loop loop.counter (map name_of old) refl

  -- its variables are taken back
  pub loop_left : {was on now : Sight} (variable : Ident) (counter : Option Ident) (old mid last new : List (ScopeEntry H)) (base : ℕ) →
      base + counters counter + 1 ≡ length (map name_of mid) →
      Leads was (naming (turn_names variable counter) (framed was (map name_of old))) on (map name_of mid) →
      Restores on (map name_of mid) now (map name_of last) →
      new ≡ take base last → Leads was (framed was (map name_of old)) now (map name_of new)
  loop_left {on = on} {now = now} variable counter old mid last new base count leads back cut = record {
    off = λ off. leads.off (on_before off);
    leads = λ off.
        let is = leads.leads (on_before off) in
        let from : base ≡ length old =
        omega (
          arith,
          count,
          ap (λ (f : Frame). length f.names) is,
          turn_count variable counter (map name_of old),
          length-map old name_of,
        ) in
        let names = names_restored old last new base cut from
        (turn_begins variable counter (map name_of old) _ (back.names ∙ ap (λ (f : Frame). f.names) is)) in
        λ i. record { names = names i; imports = (ap (λ (s : Sight). s.imports) back.sight ∙ ap (λ (f : Frame). f.imports) is) i };
  }
    where
      on_before : now.searched ≡ false → on.searched ≡ false
      on_before off = ap (λ (s : Sight). s.searched) (sym back.sight) ∙ off

  -- ---- a branch

  module _ (branch : StmtBlock) (source : Option (List ℕ)) (caught : EvalAltResult H) (sight : Sight) where
    abbrev Suits : List Name → Option Name → Type 0
    Suits names name = Agrees sight names (above (naming (with_name name)) (resolves_block branch))

    named : (plain : Bool) (name : Name) (names : List Name) → IsSomeAnd (if plain then Some (Some name) else None) (Suits names) →
        Agrees sight (names ++ name ∷ []) (resolves_block branch)
    named true name names h =
        record { known = with_variable name h.known; holds = h.holds; stands = λ off. ap (with_variable name) (h.stands off) }
    named false name names h = absurd h

    suits_behind : (l : ExprLayer) (names : List Name) → IsSomeAnd (catch_name l) (Suits names) →
        Agrees sight (names ++ map name_of (bound (catch_variable l) source caught)) (resolves_block branch)
    suits_behind (layer.Unit pos) names h =
        record { known = h.known; holds = h.holds; stands = λ off. ap (framed sight) (append-nil names) ∙ h.stands off }
    suits_behind (layer.Variable offset name namespace pos) names h = named (is_unqualified namespace.path) name names h
    suits_behind _ names h = absurd h

    -- it suits behind its variable
    pub branch_suits : (variable : Expr) (old new : List (ScopeEntry H)) → IsSomeAnd (catch_of variable) (Suits (map name_of old)) →
        new ≡ old ++ bound (catch_variable (out-Expr variable)) source caught → Agrees sight (map name_of new) (resolves_block branch)
    branch_suits variable old new h is =
        let pushed = bound (catch_variable (out-Expr variable)) source caught in
        subst (λ (names : List Name). Agrees sight names (resolves_block branch))
        (sym (ap (map name_of) is ∙ map-append name_of old pushed)) (suits_behind (out-Expr variable) (map name_of old) h)

  module _ (variable : Option Ident) (source : Option (List ℕ)) (caught : EvalAltResult H) (old mid new : List (ScopeEntry H))
      (is : mid ≡ old ++ bound variable source caught) (stay : map name_of new ≡ map name_of mid) where
    pub branch_begins : Begins (map name_of old) (map name_of new)
    branch_begins = (
      map name_of (bound variable source caught),
      stay ∙ ap (map name_of) is ∙ map-append name_of old (bound variable source caught),
    )

    same_length : length new ≡ length mid
    same_length = sym (length-map new name_of) ∙ ap length stay ∙ length-map mid name_of

    -- without a variable nothing is to be taken back
    pub nothing_bound : (n : ℕ) → n ≡ length old → variable ≡ None → take n new ≡ new
    nothing_bound n count none =
        let added : bound variable source caught ≡ [] = rw none refl in
        let mid_length : length mid ≡ length old = ap length (is ∙ ap (λ entries. old ++ entries) added ∙ append-nil old) in
        take_all n new (omega (arith, same_length, mid_length, count))
