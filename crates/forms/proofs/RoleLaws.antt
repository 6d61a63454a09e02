-- The table of roles: filled vertex by vertex.
use Rattle.std.proofs.Common.{ℕ, suc, ◌+◌, ◌%◌, ◌/◌, ◌<◌, ◌≤◌, ◌≡◌, List, eqb, length, get_or, set, replicate, sym, ap, ◌∙◌, arith, get_or-set_other, ext_get_or}
use native.Mathlib.Decide.{dec_le}
use lib.ListN.{get_or-replicate, get_or-eq_default, length-replicate}
use Rattle.mathematics.specs.Graph.{Vertex}
use Rattle.forms.specs.declared.roles.Role.{Role}
use Rattle.forms.specs.Limits.{room_vertices}
use Rattle.forms.specs.GraphForm.{vertex_count, flags}
use Rattle.forms.specs.Roles.{neither, role_of, Roles}
use Rattle.forms.proofs.Filling.{Filled}
use Rattle.forms.proofs.GraphRange.{vertex_is, no_vertex_lem}

-- the role that a vertex of the graph has
abbrev role_in : Vertex → Role
role_in x = record { start = x.start; end = x.end }

role_none : (s : List ℕ) (v : ℕ) → vertex_count s ≤ v → role_of s v ≡ neither
role_none s v h = ap role_in (no_vertex_lem s v h)

abbrev flagged : ℕ → Role
flagged flag = record { start = eqb (flag % 2) 1; end = eqb (flag / 2) 1 }

-- "1 start, 2 end, 3 both, 0 neither": the role that the flag byte gives
pub role_flagged : (s : List ℕ) (v : ℕ) {flag : ℕ} → v < vertex_count s → flag ≡ flags s v → flagged flag ≡ role_of s v
role_flagged s v h f =
    ap flagged f ∙ sym (ap role_in (vertex_is s v h))

-- the table says neither from v on
pub record BlankFrom (table : List Role) (v : ℕ) : Type 0 where
  pub each : (k : ℕ) → v ≤ k → get_or table k neither ≡ neither

pub all_blank : BlankFrom (replicate room_vertices neither) 0
all_blank = record { each = λ k h. blank k }
  where
    blank : (k : ℕ) → get_or (replicate room_vertices neither) k neither ≡ neither
    blank k =
        elim (dec_le (suc k) room_vertices) [
          | yes l ↦ get_or-replicate room_vertices k neither neither l
          | no l ↦ get_or-eq_default (replicate room_vertices neither) neither {n = k} (omega (arith, length-replicate {A = Role} room_vertices neither))
        ]

pub less_blank : (table : List Role) (v : ℕ) (x : Role) → BlankFrom table v → BlankFrom (set table v x) (v + 1)
less_blank table v x b =
    record { each = λ k h. get_or-set_other table v k x neither (λ q. omega arith) ∙ b.each k (omega arith) }

pub all_roles : {s : List ℕ} {table : List Role} {v : ℕ} → Filled room_vertices neither (role_of s) table v → BlankFrom table v → vertex_count s ≤ v → Roles s table
all_roles {s} {table} {v} f b h =
    record {
      each =
          λ k.
          elim (dec_le (suc k) v) [ yes m ↦ f.each k m | no m ↦ b.each k (omega arith) ∙ sym (role_none s k (omega arith)) ];
    }

-- any two tables of roles of a form are equal: the promise of `roles` determines its result
pub roles_agree : (s : List ℕ) (one other : List Role) → length one ≡ length other → Roles s one → Roles s other → one ≡ other
roles_agree s one other m a b = ext_get_or neither one other m (λ v h. a.each v ∙ sym (b.each v))
