mod Mapped
mod Outcomes
