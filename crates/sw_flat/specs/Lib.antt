pub mod Equality
pub mod MapLends
pub mod Maps
pub mod Merging
pub mod Retaining
pub mod Vacancies
