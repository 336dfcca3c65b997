-- Who asks (paper 02, request 3).
use Rattle.std.specs.Prelude.{Bool, true, false}
use Rattle.board.specs.declared.asker.Asker.{Asker}
use Rattle.board.specs.declared.asker.Asker.TheVariants.{Owner, Tenant}

-- a tenant, and not the owner
abbrev pub is_tenant : Asker → Bool
is_tenant Owner = false
is_tenant Tenant = true
