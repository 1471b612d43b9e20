-- That no cell of the store has a bare handle, nor will get one.
use Rattle.std.specs.Prelude.{⊤, List, [], ◌∷◌, Option, Some, None}
use Rattle.rhai_values.specs.declared.base.value.Dynamic.{Dynamic}
use Rattle.rhai_values.specs.Cells.{IsNoHandle}
use Rattle.rhai_errors.specs.Native.{HasNoHandle}
use Rattle.rhai_spots.specs.Paths.{ToPlace, ToCell}
use Rattle.rhai_machine.specs.language.Values.{Cells}
use Rattle.rhai_machine.specs.language.Bodies.{this_back, focus_back}
use Rattle.rhai_machine.specs.language.Frames.{Lender, FromThis, NewValue, Purpose, ToChain, Core, Control, Assign, AssignThis, Store}
use Rattle.rhai_machine.specs.language.Frames.{StoreThis, OpenChain, ChainArguments, ChainRoot, ReadRoot, Walk, Locate, Frame, CallArgument}
use Rattle.rhai_machine.specs.language.Frames.{RootValue, ChainEnd, StepDown, Temporary, PartMethod, PartAssigned, MethodLink, MemberLink}
use Rattle.rhai_machine.specs.language.Frames.{MemberGot, MemberOperated, CallEnd}

module _ {H : Type 0} where
  -- no cell that is free has a bare handle
  abbrev pub AreSealed : Cells H → Type 0
  AreSealed [] = ⊤
  AreSealed (cell ∷ cells) = HasNoHandle cell × AreSealed cells

  -- ---- what is assigned may go into a cell, and so is no handle

  -- the value that is assigned, if one is, is no handle of a cell
  abbrev pub NewSealed : Option (NewValue H) → Type 0
  NewSealed None = ⊤
  NewSealed (Some new) = IsNoHandle new.value.value

  -- a chain that waits for arguments assigns no handle
  abbrev pub PurposeSealed : Purpose H → Type 0
  PurposeSealed (ToChain chain behind) = NewSealed chain.new
  PurposeSealed _ = ⊤

  -- what is done next assigns no handle
  abbrev pub ControlSealed : Control H → Type 0
  ControlSealed (Assign assignment v) = IsNoHandle v.value
  ControlSealed (Store assignment v) = IsNoHandle v.value
  ControlSealed (AssignThis op at v) = IsNoHandle v.value
  ControlSealed (StoreThis op at v) = IsNoHandle v.value
  ControlSealed (OpenChain chain) = NewSealed chain.new
  ControlSealed (ChainArguments chain rest made) = NewSealed chain.new
  ControlSealed (ChainRoot chain) = NewSealed chain.new
  ControlSealed (ReadRoot variable chain) = NewSealed chain.new
  ControlSealed (Walk chain) = NewSealed chain.new
  ControlSealed (Locate link chain) = NewSealed chain.new
  ControlSealed _ = ⊤

  -- what waits in a frame assigns no handle
  abbrev pub FrameSealed : Frame H → Type 0
  FrameSealed (CallArgument purpose made argument_at rest) = PurposeSealed purpose
  FrameSealed (RootValue chain) = NewSealed chain.new
  FrameSealed (MethodLink chain) = NewSealed chain.new
  FrameSealed (MemberLink access chain) = NewSealed chain.new
  FrameSealed (MemberGot access root new) = IsNoHandle new.value.value
  FrameSealed _ = ⊤

  -- no frame of a stack assigns a handle
  abbrev pub StackSealed : List (Frame H) → Type 0
  StackSealed [] = ⊤
  StackSealed (frame ∷ k) = FrameSealed frame × StackSealed k

  -- ---- what goes back

  -- what is `this` once the chain has ended: that of a chain on `this` is the focus
  abbrev pub this_after : Option Lender → (focus this : Option (Dynamic H)) → Option (Dynamic H)
  this_after (Some FromThis) focus this = focus
  this_after _ focus this = this

  -- As the stack is left, frame by frame, a focus that goes back into its cell is no handle. What is the focus then was kept by a frame, or
  -- is `this` of a function that was entered on it.
  abbrev pub GoesBack : List (Frame H) → (focus this : Option (Dynamic H)) → Type 0
  GoesBack [] focus this = ⊤
  GoesBack (StepDown above (ToCell number) ∷ k) focus this = HasNoHandle focus × GoesBack k (Some above) this
  GoesBack (StepDown above (ToPlace at) ∷ k) focus this = GoesBack k (Some above) this
  GoesBack (Temporary above back ∷ k) focus this = GoesBack k above this
  GoesBack (PartMethod above spot at ∷ k) focus this = GoesBack k (Some above) this
  GoesBack (PartAssigned above spot at ∷ k) focus this = GoesBack k (Some above) this
  GoesBack (MemberOperated access above at ∷ k) focus this = GoesBack k above this
  GoesBack (ChainEnd lender outer ∷ k) focus this = GoesBack k outer (this_after lender focus this)
  GoesBack (CallEnd exit ∷ k) focus this = GoesBack k (focus_back exit.object exit.focus this) (this_back exit.object exit.this this)
  GoesBack (_ ∷ k) focus this = GoesBack k focus this

  -- no cell has a bare handle, and none will get one: not by an assignment, and not by what goes back as the stack is left
  pub record Sealed (c : Core H) : Type 0 where
    pub control : ControlSealed c.control
    pub stack : StackSealed c.stack
    pub goes_back : GoesBack c.stack c.local.focus c.local.this
    pub cells : AreSealed c.local.around.cells
