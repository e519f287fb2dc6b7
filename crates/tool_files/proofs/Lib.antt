pub mod UuidLaws
pub mod ApartLaws
