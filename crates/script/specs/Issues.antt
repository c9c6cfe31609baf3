-- Certificates that a script writes.
use Rattle.std.specs.Prelude.{ℕ, List, Some, None, Option}
use Rattle.std.specs.Option.{option_map}
use Rattle.role.specs.declared.role.Role.{Role}
use Rattle.certificate.specs.declared.fields.Privilege.{Privilege}
use Rattle.certificate.specs.Certificates.{message_of, certificate}
use Rattle.certificate.specs.Fields.{privilege_bytes}
use Rattle.role.specs.Roles.{role_of}
use Rattle.command.specs.declared.command.Grant.{Grant}
use Rattle.seal.specs.declared.key.Key.{Key}
use Rattle.script.specs.Marks.{mark_by}

-- a certificate of this body, with the mark of its issuer
abbrev pub sealed_body : List Key → ℕ → List ℕ → List ℕ
sealed_body ks issuer body = certificate body (mark_by ks issuer (message_of body))

-- the fields with a role and a clearance, if both are there
abbrev pub granted : {C : Type 0} → Grant → Option Role → Option C → Option (Privilege C)
granted g None c = None
granted g (Some r) None = None
granted g (Some r) (Some c) = Some (record { header = g.header; base = g.base; role = r; clearance = c })

-- the fields of a privilege or an authorisation certificate, where role and clearance have a meaning
abbrev pub judged : {C : Type 0} → (ℕ → Option C) → Grant → Option (Privilege C)
judged of_number g = granted g (role_of g.role) (of_number g.clearance)

-- the certificate of these fields, if there are any, over a clearance kind
abbrev pub grant_bytes : {C : Type 0} → (ℕ → Option C) → (C → ℕ) → List Key → Grant → Option (List ℕ)
grant_bytes of_number number_of ks g = option_map (λ x. sealed_body ks x.header.identity.issuer (privilege_bytes number_of x)) (judged of_number g)
