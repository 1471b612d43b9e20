-- What each rule keeps while a constant stands in the scope at the bottom: it stands there, and whatever will be written to it is itself. A
-- chain works on a copy, which goes back as the stack is left: what the focus and `this` have to be for that is told by the stack.
use Rattle.std.proofs.Common.{refl}
use Rattle.std.specs.Prelude.{◌≡◌, ◌⊎◌, ◌<◌, ⊤, ℕ, Bool, true, false, ◌&&◌, List, [], ◌∷◌, nat_eq, length, Option, Some, None}
use Rattle.std.specs.Prelude.{◌+◌, if◌then◌else◌}
use Rattle.rhai_values.specs.declared.base.value.Dynamic.{Dynamic}
use Rattle.rhai_values.specs.declared.base.value.Union.{Union}
use Rattle.rhai_values.specs.declared.base.value.Union.TheVariants as value
use Rattle.rhai_values.specs.Cells.{IsNoHandle}
use Rattle.rhai_values.specs.TypeNames.{type_name_of}
use Rattle.rhai_errors.specs.Native.{Purity, Request, Reply, HasNoHandle, purity_of, question_of}
use Rattle.rhai_machine.specs.machine.Machine.{Move, Halt, Go, Charge, Native, AskPure}
use Rattle.rhai_state.specs.Scope.{value_in}
use Rattle.rhai_state.specs.declared.scope.ScopeEntry.{ScopeEntry}
use Rattle.rhai_spots.specs.declared.spot.Spot.{Spot}
use Rattle.rhai_spots.specs.Parts.{value_at, part_of}
use Rattle.rhai_spots.specs.Paths.{ToPlace, ToCell}
use Rattle.rhai_machine.specs.language.State.{Local}
use Rattle.rhai_machine.specs.language.Values.{Cells, unit_value}
use Rattle.rhai_machine.specs.language.Places.{Place, InEntry, InCell, InThis, InFocus, is_constant}
use Rattle.rhai_machine.specs.language.Activations.{ThisFrom, NoThis, OwnThis, TheFocus, Variables, Caller, UpTo, Without}
use Rattle.rhai_machine.specs.language.Calls.{key_of}
use Rattle.rhai_machine.specs.language.Frames.{Chain, Lender, FromEntry, FromThis, FromFocus, Call, Purpose, ToChain, MemberAccess, Control}
use Rattle.rhai_machine.specs.language.Frames.{Core, core}
use Rattle.rhai_machine.specs.language.Frames.{Ask, Question, Fire, AskUpdate, QuestionUpdate, FireUpdate, ForTurn, ForItem}
use Rattle.rhai_machine.specs.language.Frames.{ChainArguments, ChainRoot, ReadRoot, Walk, Locate, Back, Changed, Fail, Frame, CallArgument}
use Rattle.rhai_machine.specs.language.Frames.{RestoreList, RestoreScope, ForBody, RootValue, ChainEnd, StepDown, Temporary, PartMethod}
use Rattle.rhai_machine.specs.language.Frames.{PartAssigned, Measured, MethodLink, MemberLink, MemberGot, MemberOperated, GetterTried}
use Rattle.rhai_machine.specs.language.Frames.{SetterTried, IndexerTried, MemberSet, CallEnd}
use Rattle.rhai_constants.specs.Constants.{IsConstant, is_bottom, AreFlat}
use Rattle.rhai_constants.proofs.ConstantLemmas.{constant_at, constant_part}

-- the constant: where it stands, and its value; and the names of the host's types
pub record Asked (H : Type 0) : Type 0 where
  pub index : ℕ
  pub value : Dynamic H
  pub constant : IsConstant value
  pub host : H → List ℕ

-- the same, with what the table says of its natives
pub record Told (H : Type 0) : Type 0 where
  pub of : Asked H
  pub pure : Purity → Bool

-- the same, of a table that says something else
abbrev pub telling : {H : Type 0} → Told H → (Purity → Bool) → Told H
telling a pure = record a { pure = pure }

-- what the focus and `this` have to be, where it is known
pub record Due (H : Type 0) : Type 0 where
  pub focus : Option (Dynamic H)
  pub this : Option (Dynamic H)

-- what a call has to know that says whether it changed its first argument
abbrev pub TellsChange : Bool → Type 0 → Type 0
TellsChange false P = ⊤
TellsChange true P = P

module _ {H : Type 0} where
  -- what is wanted is there
  abbrev pub IsDue : (wanted : Option (Dynamic H)) → Option (Dynamic H) → Type 0
  IsDue None there = ⊤
  IsDue (Some w) there = there ≡ Some w

  -- nothing is wanted
  abbrev pub IsFree : (wanted : Option (Dynamic H)) → Type 0
  IsFree None = ⊤
  IsFree (Some w) = ⊥

  -- this holds where something is wanted
  abbrev pub Where : (wanted : Option (Dynamic H)) → Bool → Type 0
  Where None b = ⊤
  Where (Some w) b = b ≡ true

  abbrev pub IsConstantDue : (wanted : Option (Dynamic H)) → Type 0
  IsConstantDue None = ⊤
  IsConstantDue (Some w) = IsConstant w

  abbrev pub due_at : (wanted : Option (Dynamic H)) → Spot → Option (Dynamic H)
  due_at None at = None
  due_at (Some w) at = value_at w at

  abbrev pub due_part : (wanted : Option (Dynamic H)) → Spot → Option (Dynamic H)
  due_part None at = None
  due_part (Some w) at = Some (part_of w at)

  -- `this` of a function
  abbrev pub due_this : ThisFrom → Due H → Option (Dynamic H)
  due_this NoThis d = None
  due_this OwnThis d = d.this
  due_this TheFocus d = d.focus

  -- a member that is set goes by natives that are kept from a constant
  abbrev pub WayBack : (wanted : Option (Dynamic H)) → Option (MemberAccess H) → Type 0
  WayBack wanted None = ⊤
  WayBack wanted (Some access) = Where wanted access.guarded

  -- a control over a stack
  abbrev pub calm : List (Frame H) → Local H → Core H
  calm k l = core (Back unit_value) k l

  abbrev pub PurposeFlat : Purpose H → List (Dynamic H) → Type 0
  PurposeFlat (ToChain chain behind) made = AreFlat made
  PurposeFlat _ made = ⊤

  -- a lent value is what is wanted, and a native that is not pure does not get it
  abbrev pub Loan : (wanted : Option (Dynamic H)) → (guarded : Bool) → List (Dynamic H) → Type 0
  Loan None guarded args = ⊤
  Loan (Some w) guarded [] = ⊤
  Loan (Some w) guarded (x ∷ rest) = (guarded ≡ true) × (x ≡ w)

  abbrev pub FirstIsConstant : List (Dynamic H) → Type 0
  FirstIsConstant [] = ⊥
  FirstIsConstant (x ∷ rest) = (is_constant x.mode ≡ true) × IsNoHandle x.value

  -- the value that a call may change is a constant, which is kept from a native that is not pure
  abbrev pub IsShielded : Call H → Type 0
  IsShielded call = (call.guarded ≡ true) × FirstIsConstant call.args

  -- of a handle its cell is lent instead
  abbrev pub UnlessHandle : Union H → Type 0 → Type 0
  UnlessHandle (value.Cell id) P = ⊤
  UnlessHandle _ P = P

module _ {H : Type 0} (a : Asked H) where
  -- what the focus of a chain is due to be, by who lent its root
  abbrev pub due_root : Option Lender → (bottom : Bool) → Due H → Option (Dynamic H)
  due_root None bottom d = None
  due_root (Some (FromEntry at)) bottom d = if bottom && nat_eq a.index at then Some a.value else None
  due_root (Some FromThis) bottom d = d.this
  due_root (Some FromFocus) bottom d = None

  abbrev pub due : List (Frame H) → Due H
  due [] = record { focus = None; this = None }
  due (ChainEnd lender outer ∷ k) = record { focus = due_root lender (is_bottom k) (due k); this = (due k).this }
  due (StepDown above (ToPlace at) ∷ k) = record { focus = due_at (due k).focus at; this = (due k).this }
  due (StepDown above (ToCell n) ∷ k) = record { focus = None; this = (due k).this }
  due (Temporary above back ∷ k) = record { focus = None; this = (due k).this }
  due (MemberOperated access above at ∷ k) = record { focus = None; this = (due k).this }
  due (PartMethod above at pos ∷ k) = record { focus = due_part (due k).focus at; this = (due k).this }
  due (PartAssigned above at pos ∷ k) = record { focus = due_part (due k).focus at; this = (due k).this }
  due (CallEnd exit ∷ k) = record { focus = None; this = due_this exit.object (due k) }
  due (_ ∷ k) = due k

  -- a length of the scope, where it is the one at the bottom, takes in the constant
  abbrev pub Longer : List (Frame H) → ℕ → Type 0
  Longer k n = is_bottom k ≡ true → a.index < n

  -- the constant stands among variables
  abbrev pub StandsIn : List (ScopeEntry H) → Type 0
  StandsIn scope = value_in scope (Some a.index) ≡ Some a.value

  -- what the end of a call gives back
  abbrev pub GivesBack : Variables H → List (Frame H) → Type 0
  GivesBack (Caller scope) k = is_bottom k ≡ true → StandsIn scope
  GivesBack (UpTo n) k = Longer k n
  GivesBack (Without n slots) k = Longer k n

  -- a value may come up to the stack as `Changed`: it does not make a part of a constant go back
  abbrev pub Open : List (Frame H) → Type 0
  Open (PartMethod above at pos ∷ k) = IsFree (due k).focus × Open k
  Open (StepDown above step ∷ k) = Open k
  Open (Temporary above back ∷ k) = Open k
  Open (GetterTried access name ∷ k) = Open k
  Open (SetterTried access name v ignores ∷ k) = Open k
  Open (IndexerTried otherwise ∷ k) = Open k
  Open _ = ⊤

  -- what stands on the stack: lengths that take in the constant, and values that are what they are due to be
  abbrev pub Kept : List (Frame H) → Type 0
  Kept [] = ⊤
  Kept (RestoreList saved ∷ k) = Longer k saved.scope_length × Kept k
  Kept (RestoreScope n ∷ k) = Longer k n × Kept k
  Kept (ForBody loop rest turn base ∷ k) = Longer k base × Kept k
  Kept (CallArgument purpose made at rest ∷ k) = PurposeFlat purpose made × Kept k
  Kept (RootValue chain ∷ k) = AreFlat chain.args × Kept k
  Kept (MethodLink chain ∷ k) = AreFlat chain.args × (Open k × Kept k)
  Kept (MemberLink access chain ∷ k) = AreFlat chain.args × (Where (due k).focus access.guarded × (Open k × Kept k))
  Kept (MemberGot access root new ∷ k) = Where (due k).focus access.guarded × (Open k × Kept k)
  Kept (MemberOperated access above at ∷ k) = IsDue (due k).focus above × (Where (due k).focus access.guarded × (Open k × Kept k))
  Kept (SetterTried access name v ignores ∷ k) = Where (due k).focus access.guarded × (Open k × Kept k)
  Kept (MemberSet v ∷ k) = Open k × Kept k
  Kept (Measured at ∷ k) = Open k × Kept k
  Kept (PartAssigned above at pos ∷ k) = IsFree (due k).focus × (Open k × Kept k)
  Kept (PartMethod above at pos ∷ k) = IsDue (due k).focus (Some above) × Kept k
  Kept (StepDown above step ∷ k) = IsDue (due k).focus (Some above) × Kept k
  Kept (Temporary above back ∷ k) = IsDue (due k).focus above × (WayBack (due k).focus back × Kept k)
  Kept (ChainEnd lender outer ∷ k) = IsDue (due k).focus outer × Kept k
  Kept (CallEnd exit ∷ k) = GivesBack exit.variables k × (IsDue (due k).focus exit.focus × (IsDue (due k).this exit.this × Kept k))
  Kept (_ ∷ k) = Kept k

  -- an error may come down past a part that was not assigned to
  abbrev pub KeptBelow : List (Frame H) → Type 0
  KeptBelow (PartAssigned above at pos ∷ k) = IsDue (due k).focus (Some above) × Kept k
  KeptBelow k = Kept k

  abbrev pub KeptBy : Control H → List (Frame H) → Type 0
  KeptBy (Fail e) k = KeptBelow k
  KeptBy _ k = Kept k

  -- the constant stands, and focus and `this` are what they are due to be
  abbrev pub Settled : List (Frame H) → Local H → Type 0
  Settled k l = (is_bottom k ≡ true → StandsIn l.scope) × (IsDue (due k).focus l.focus × IsDue (due k).this l.this)

  -- ---- controls

  -- a place that may be written to
  abbrev pub Writable : Place → List (Frame H) → Type 0
  Writable (InEntry at) k = is_bottom k ≡ true → a.index ≡ at → ⊥
  Writable (InCell n) k = ⊤
  Writable InThis k = IsFree (due k).this
  Writable InFocus k = IsFree (due k).focus

  abbrev pub Lent : Option Lender → (guarded : Bool) → List (Dynamic H) → List (Frame H) → Type 0
  Lent None guarded args k = ⊤
  Lent (Some (FromEntry at)) guarded args k = is_bottom k ≡ true → a.index ≡ at → ⊥
  Lent (Some FromThis) guarded args k = Loan (due k).this guarded args
  Lent (Some FromFocus) guarded args k = Loan (due k).focus guarded args

  abbrev pub Calls : Call H → List (Frame H) → Type 0
  Calls call k = Lent call.lender call.guarded call.args k × TellsChange call.marks (Open k ⊎ IsShielded call)

  abbrev pub Walks : Chain H → List (Frame H) → Type 0
  Walks chain k = Where (due k).focus chain.in_place × (Open k × AreFlat chain.args)

  -- ---- what is due is a constant

  chosen_constant : (b : Bool) → IsConstantDue (if b then Some a.value else None)
  chosen_constant true = a.constant
  chosen_constant false = tt

  root_constant : (lender : Option Lender) (bottom : Bool) (d : Due H) → IsConstantDue d.this → IsConstantDue (due_root lender bottom d)
  root_constant None bottom d h = tt
  root_constant (Some (FromEntry at)) bottom d h = chosen_constant (bottom && nat_eq a.index at)
  root_constant (Some FromThis) bottom d h = h
  root_constant (Some FromFocus) bottom d h = tt

  there_constant : (w : Dynamic H) (at : Spot) (there : Option (Dynamic H)) → value_at w at ≡ there → IsConstant w → IsConstantDue there
  there_constant w at None is c = tt
  there_constant w at (Some u) is c = constant_at w at u c is

  at_constant : (wanted : Option (Dynamic H)) (at : Spot) → IsConstantDue wanted → IsConstantDue (due_at wanted at)
  at_constant None at c = tt
  at_constant (Some w) at c = there_constant w at (value_at w at) refl c

  part_constant : (wanted : Option (Dynamic H)) (at : Spot) → IsConstantDue wanted → IsConstantDue (due_part wanted at)
  part_constant None at c = tt
  part_constant (Some w) at c = constant_part w at c

  this_constant : (object : ThisFrom) (d : Due H) → IsConstantDue d.focus → IsConstantDue d.this → IsConstantDue (due_this object d)
  this_constant NoThis d f t = tt
  this_constant OwnThis d f t = t
  this_constant TheFocus d f t = f

  pub constant_due : (k : List (Frame H)) → IsConstantDue (due k).focus × IsConstantDue (due k).this
  constant_due [] = (tt, tt)
  constant_due (ChainEnd lender outer ∷ k) = (root_constant lender (is_bottom k) (due k) (constant_due k).1, (constant_due k).1)
  constant_due (StepDown above (ToPlace at) ∷ k) = (at_constant (due k).focus at (constant_due k).0, (constant_due k).1)
  constant_due (StepDown above (ToCell n) ∷ k) = (tt, (constant_due k).1)
  constant_due (Temporary above back ∷ k) = (tt, (constant_due k).1)
  constant_due (MemberOperated access above at ∷ k) = (tt, (constant_due k).1)
  constant_due (PartMethod above at pos ∷ k) = (part_constant (due k).focus at (constant_due k).0, (constant_due k).1)
  constant_due (PartAssigned above at pos ∷ k) = (part_constant (due k).focus at (constant_due k).0, (constant_due k).1)
  constant_due (CallEnd exit ∷ k) = (tt, this_constant exit.object (due k) (constant_due k).0 (constant_due k).1)
  constant_due (_ ∷ k) = constant_due k

module _ {H : Type 0} (a : Told H) where
  -- the native of a call is pure
  abbrev pub IsPure : Call H → (first : Dynamic H) → (rest : List (Dynamic H)) → Cells H → Type 0
  IsPure call x rest cells =
      a.pure (purity_of (key_of call) (type_name_of a.of.host cells x) (1 + length rest)) ≡ true

  abbrev pub Fired : (wanted : Option (Dynamic H)) → Call H → List (Dynamic H) → Cells H → Type 0
  Fired None call args cells = ⊤
  Fired (Some w) call [] cells = ⊤
  Fired (Some w) call (x ∷ rest) cells = (x ≡ w) × UnlessHandle x.value (IsPure call x rest cells)

  abbrev pub LentNow : Option Lender → Call H → List (Frame H) → Local H → Type 0
  LentNow None call k l = ⊤
  LentNow (Some (FromEntry at)) call k l = is_bottom k ≡ true → a.of.index ≡ at → ⊥
  LentNow (Some FromThis) call k l = Fired (due a.of k).this call call.args l.around.cells
  LentNow (Some FromFocus) call k l = Fired (due a.of k).focus call call.args l.around.cells

  abbrev pub At : Control H → List (Frame H) → Local H → Type 0
  At (Ask call) k l = Calls a.of call k
  At (Question call) k l = Calls a.of call k
  At (Fire call) k l = LentNow call.lender call k l × TellsChange call.marks (Open a.of k)
  At (AskUpdate u) k l = Writable a.of u.place k
  At (QuestionUpdate u) k l = Writable a.of u.place k
  At (FireUpdate u) k l = Writable a.of u.place k
  At (ForTurn loop left turn base) k l = Longer a.of k base
  At (ForItem loop item rest turn base) k l = Longer a.of k base
  At (ChainArguments chain rest made) k l = AreFlat made
  At (ChainRoot chain) k l = AreFlat chain.args
  At (ReadRoot variable chain) k l = AreFlat chain.args
  At (Walk chain) k l = Walks a.of chain k
  At (Locate link chain) k l = Walks a.of chain k
  At (Changed v) k l = Open a.of k
  At _ k l = ⊤

  -- what is kept
  abbrev pub Inv : Core H → Type 0
  Inv c = At c.control c.stack c.local × (KeptBy a.of c.control c.stack × Settled a.of c.stack c.local)

module _ {H : Type 0} (a : Told H) where
  -- and what a move keeps
  pub record Keeps (c d : Core H) : Type 0 where
    pub holds : Inv a c → Inv a d

  pub quiet : {c d : Core H} → (Inv a c → Inv a d) → Keeps c d
  quiet h = record { holds = h }

  pub through : {b c d : Core H} → Keeps b c → Keeps c d → Keeps b d
  through p q = record { holds = λ h. q.holds (p.holds h) }

  -- a move by way of another core
  pub after : {b d : Core H} (c : Core H) → (Inv a b → Inv a c) → Keeps c d → Keeps b d
  after c f q = record { holds = λ h. q.holds (f h) }

  -- a move of which more is known by what is kept
  pub knowing : {b d : Core H} → (Inv a b → Keeps b d) → Keeps b d
  knowing f = record { holds = λ h. (f h).holds h }

  abbrev pub Then : (Purity → Bool) → Core H → Type 0
  Then pure d = Inv (telling a pure) d

  -- a move keeps it, and a native's whatever the table says after it: a pure native leaves its first argument
  pub record Answers (c : Core H) (q : Request H) (f : Reply H → Option (Dynamic H) → Core H) : Type 0 where
    pub asks : HasNoHandle q.first
    pub answered : (reply : Reply H) (first : Option (Dynamic H)) (pure : Purity → Bool) →
        (a.pure (question_of a.of.host q) ≡ true → first ≡ q.first) → Then pure (f reply first)

  abbrev pub Moves : Core H → Move H (Core H) → Type 0
  Moves c Halt = ⊤
  Moves c (Go d) = Keeps c d
  Moves c (Charge at d) = Keeps c d
  Moves c (Native q f) = Inv a c → Answers c q f
  Moves c (AskPure q f) = Keeps c (f (a.pure q))
