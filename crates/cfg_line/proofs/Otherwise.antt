-- What the `else` of a `let .. else` on a keyword knows. Assumes nothing.
use mathlib.Core.Path.{◌≡◌, refl}
use mathlib.Core.List.{[]}
use Rattle.cfg_line.specs.declared.Keyword.{Keyword}
use Rattle.cfg_line.specs.declared.Keyword.TheVariants as keyword
use Rattle.std.specs.Prelude.{None}
use Rattle.cfg_line.specs.Form.{form_of}

-- only a halt has its name alone
pub not_halt : (w : Keyword) → (w ≡ keyword.Halt → ⊥) → form_of w [] ≡ None
unfolding form_of
not_halt keyword.Graph h = refl
not_halt keyword.Block h = refl
not_halt keyword.Goto h = refl
not_halt keyword.Ite h = refl
not_halt keyword.Halt h = absurd (h refl)
not_halt keyword.Set h = refl
not_halt keyword.In h = refl
not_halt (keyword.Unary k) h = refl
not_halt (keyword.Binary k) h = refl
