-- Tags by their parts.
use Rattle.std.proofs.Common.{◌≡◌, ap, ◌∙◌}
use Rattle.rc_base.specs.declared.names.Tag.{Tag}

-- a tag is what its parts are
pub same_tag : (a b : Tag) → a.epoch ≡ b.epoch → a.owner ≡ b.owner → a.class ≡ b.class → a.rmid ≡ b.rmid → a.mask ≡ b.mask → a.domain ≡ b.domain → a ≡ b
same_tag a b e o c r m d =
    ap (λ x. record { epoch = x; owner = a.owner; class = a.class; rmid = a.rmid; mask = a.mask; domain = a.domain }) e
    ∙ (ap (λ x. record { epoch = b.epoch; owner = x; class = a.class; rmid = a.rmid; mask = a.mask; domain = a.domain }) o
    ∙ (ap (λ x. record { epoch = b.epoch; owner = b.owner; class = x; rmid = a.rmid; mask = a.mask; domain = a.domain }) c
    ∙ (ap (λ x. record { epoch = b.epoch; owner = b.owner; class = b.class; rmid = x; mask = a.mask; domain = a.domain }) r
    ∙ (ap (λ x. record { epoch = b.epoch; owner = b.owner; class = b.class; rmid = b.rmid; mask = x; domain = a.domain }) m
    ∙ ap (λ x. record { epoch = b.epoch; owner = b.owner; class = b.class; rmid = b.rmid; mask = b.mask; domain = x }) d))))
