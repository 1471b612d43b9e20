-- Laws of paths: what is written is read, what stands off the path stays, and what goes back step by step is written at its end.
use Rattle.std.specs.Prelude.{◌≡◌, List, [], ◌∷◌, ◌++◌, Some}
use Rattle.rhai_values.specs.declared.base.value.Dynamic.{Dynamic}
use Rattle.rhai_spots.specs.Paths.{IsPlain, IsSimple, Parts, Rooted, Step, gone_back, next, read, write}

module _ (H : Type 0) where
  -- what is written at a path's end is read there, what stands off it stays, and going back step by step writes it at once
  pub record PathLaws : Type 0 where
    pub written : (root : Rooted H) (path : List Step) (u w : Dynamic H) → IsSimple path → read root path ≡ Some u →
        read (write root path w) path ≡ Some w
    pub stays : (root : Rooted H) (path other : List Step) (u w : Dynamic H) → IsPlain path → Parts path other → read root path ≡ Some u →
        read (write root path w) other ≡ read root other
    pub goes_back : (root : Rooted H) (path : List Step) (step : Step) (u v w : Dynamic H) → IsSimple (path ++ step ∷ []) →
        read root path ≡ Some u → next root.cells u step ≡ Some v →
        write root (path ++ step ∷ []) w
        ≡ write (record root { cells = (gone_back u step (record root { value = w })).cells }) path
        (gone_back u step (record root { value = w })).value
